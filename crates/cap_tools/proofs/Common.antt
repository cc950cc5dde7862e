-- Re-exports the names that most proofs of this crate cite; declares nothing.
pub use Rattle.std.proofs.Common.{◌≡◌, ◌⊎◌, inl, inr, ℕ, ◌+◌, ◌<◌, ◌≤◌, Bool, true, false, List, [], ◌∷◌, ◌++◌, length, map, Option, None, Some, Result, Ok}
pub use Rattle.std.proofs.Common.{Err, refl, sym, ◌∙◌, ap, arith, subst, not, nat_eq, if◌then◌else◌, ◌-◌, suc, drop, add-zero, option_to_list, IsTrue, nat_le}
pub use Rattle.std.proofs.Common.{◌&&◌, zero, cond, max, ◌*◌, ◌^◌, ap₂, string_bytes, String}
pub use Rattle.std.proofs.lemmas.{Grind.common_steps, Option.slice_get-map, Option.slice_get_past, Option.slice_get_read}
pub use Rattle.std.proofs.lemmas.List.{append_assoc, append-nil, map-append, length-map, length-set, length-append}
pub use Rattle.std.specs.List.{slice_get, slice_set, All}
pub use Rattle.std.specs.Option.{option_map, option_or, is_none, is_some, unwrap_or}
pub use Rattle.cap_command.specs.{Call.Call, Call.RunResult, Call.call_of, Command.most_inputs}
pub use Rattle.cap_filter.specs.{Expressions.IsCompiled, declared.filter.Refusal.Refusal, Programs.spent_in, Programs.AreMade, Programs.ran_at, Programs.ran_if}
pub use Rattle.cap_filter.specs.FilterRules.{Rule, by_reading, by_answer, refusal_status}
pub use Rattle.cap_filter.specs.Filters.{AreNew, place_by, spent_on, programs_of, rule_of}
pub use Rattle.cap_inputs.specs.Fresh.{fresh_view, nothing_done, fresh_inputs}
pub use Rattle.cap_inputs.specs.Inputs.{InputView, Future, InputPast, AreInputsAfter, AreSettled, IsInput, input_after_decided, items_left, inputs_left}
pub use Rattle.cap_inputs.specs.Inputs.{sequence_left, InputsView, input_after, limits_of, AreFutures, waiting_packets, input_items, inputs_with, no_future}
pub use Rattle.cap_inputs.specs.Inputs.{ReadsInput, ended_count, is_open, key_of, packet_time, MarksDecided, ReadSteps, steps_left_in, with_cursor}
pub use Rattle.cap_inputs.specs.Inputs.{KnowGreatest, greatest_of, is_clean_end, next_of}
pub use Rattle.cap_inputs.{specs.declared.inputs.Next.Next, proofs.Placed.decided-waits}
pub use Rattle.cap_inputs.specs.inside.Inputs.{actual_future, most_steps, offset_of, IsNext, is_in_turn, AllEnded, first_declared_link, IsNextIn, IsOpen}
pub use Rattle.cap_inputs.specs.inside.Inputs.{owed_by, steps_left}
pub use Rattle.cap_inputs.proofs.Cursors.{get-input, greatest-decided, same-input, set-among}
pub use Rattle.cap_inputs.proofs.Nexts.{next-is-of, count-open, count-all}
pub use Rattle.cap_io.specs.Capture.{Placed, Declared, Items, FaultAt, items, after_packets, no_items, kind_of, first_link_of, Nothing, PcapFile, PcapngFile}
pub use Rattle.cap_io.specs.Position.{IsAt, ReadFailsAt, given_in_all, pending}
pub use Rattle.cap_io.specs.{Reading.decisive_length, Reading.most_in_unit, declared.source.Kind.Kind}
pub use Rattle.cap_io.specs.Sequence.{InputItems, Event, Packet, SequenceEnd, Complete, FaultIn, Sequence, sequence_of, with_front, PacketOrder, whole_input}
pub use Rattle.cap_io.specs.Sequence.{InputEnd, sequence_in_turn, input_sequence, InTurn, order_of, ByTime, sequence_by_time}
pub use Rattle.cap_io.specs.Source.{SourceView, Phase, Ended, FindsPacket, FindsEnd, Finds, Advances, Reading, Failed, Steps, end_offset, phase_after}
pub use Rattle.cap_io.specs.Source.{SectionFits}
pub use Rattle.cap_io.specs.Text.{text, added_text, packets_text, file_start}
pub use Rattle.cap_io.proofs.{Standing.IsAt-decided, Standing.IsAt-start, Texts.text-more, Texts.HasPackets-none}
pub use Rattle.cap_octet.specs.{Device.Stops, Device.HasGiven, Link.all_links, Packet.Captured}
pub use Rattle.cap_octet.specs.Views.{OutputView, output_view, FreshInput, fresh_input, fresh_output}
pub use Rattle.cap_octet.specs.declared.{device.DeviceFault.DeviceFault, fault.Fault.Fault, link.Link.Link}
pub use Rattle.cap_octet.specs.declared.fault.Fault.TheVariants.{NoMemory, WriteFailed, ReadFailed}
pub use Rattle.cap_process.specs.{Messages.IsTold, Messages.no_memory_message, declared.output.Writing.Writing}
pub use Rattle.cap_process.specs.Outcome.{Form, JobProgress, IsNextEvent, lines_text, no_progress, decide, unless_refused, apply_verdict, apply_event}
pub use Rattle.cap_process.specs.Outcome.{apply_events, final_progress, packet_bytes, form_refuses, form_takes_memory, end_with, final_text, first_link}
pub use Rattle.cap_process.specs.Outcome.{output_text, IsNextAnswer, cut_at, text_of_progress, ComeFirst, closing_text, end_input, unless_ended, report_bytes}
pub use Rattle.cap_process.specs.Output.{Target, Capture, Text, Lines, HasWrittenTo, form_to, written_to, failures_to, room_to, target_at}
pub use Rattle.cap_process.specs.Output.{HasFewOutputInterfaces}
pub use Rattle.cap_process.specs.Reports.{Tally, name_at, Report, report_text, reports_text}
pub use Rattle.cap_process.specs.Selector.{IsWithin, SelectorView, is_count, spent_by_verdict, AreFor, HavePrograms, spent_by, policy_of}
pub use Rattle.cap_process.specs.Verdict.{Policy, Edit, Filter, KeepAll, Count, SelectorState, initial_state, Verdict, Pass, PassLast, PassesAs, Skip, Refuse}
pub use Rattle.cap_process.specs.Verdict.{judge, is_too_many}
pub use Rattle.cap_process.specs.inside.Output.{PutsIntoOutput, Reports, is_text, EndsOutput}
pub use Rattle.cap_process.specs.inside.Selector.{PolicyState, GrowsByOne, with_empty_tally, HasFewMarks, policy_state}
pub use Rattle.cap_process.proofs.Outcomes.{Grows, course-grows, progress-next, course-stop, progress-append, course-close}
pub use Rattle.cap_process.proofs.Outputs.{drained-text, PutOk, put-ok, lines-more, unput, closing-some, ReportOk, report-ok, reports-more, lines-one}
pub use Rattle.cap_tools.specs.Bounds.{most_turns, StepReads, reads_on, decides_one, leaves_one, reads_nothing, reads_of, IsLight, IsSmall}
pub use Rattle.cap_tools.specs.Commands.{CompileGives, DecidedBy, ListsSome, PreparesBy, PreparesOnly, job_left, RefusesStart}
pub use Rattle.cap_tools.specs.Jobs.{JobView, end_status, end_message, first_job, Decided, JobGives, EndsJob, state_at, StaysDecided, MessagesView}
pub use Rattle.cap_tools.specs.Packets.{JobState, Meets, a_packet, PacketsDecided, GoesOn, StopsWriting, EndLeaves, StepLeaves, progress_at, progress_of}
pub use Rattle.cap_tools.specs.Packets.{progress_over, output_form, wholes_of, work_of, written_by, CompletesOutput, EndsByCut, WantsMemory, all_ends, an_end}
pub use Rattle.cap_tools.specs.Packets.{failures_by, room_by, StepGives, AppendsOnce, BreaksAt, WhyBroken, asks_report, nothing, packet, report, closes}
pub use Rattle.cap_tools.specs.Packets.{finish_at}
pub use Rattle.cap_tools.specs.{Run.CommandRuns, Run.ends, Run.fault_outcome, Run.of_nothing, declared.job.Turn.Turn, declared.step.JobEnd.JobEnd}
pub use Rattle.cap_tools.specs.Start.{Assignment, Preparing, ReadsFilter, Compiles, assignment, preparing_of, asked_by}
pub use Rattle.cap_tools.specs.inside.Bounds.{HasFewTurns, IsPaid, steps_owed_in_all, owed_in}
pub use Rattle.cap_tools.specs.inside.Jobs.{IsReadyIf, with_preparing, EndsList, IsCounted, IsSound, ending, IsStep, MakesStep, is_read, makes, rests}
pub use Rattle.cap_tools.specs.inside.Packets.{DecidesPacket, Offers, end_after, end_of_failed_write, end_of_write, sieve, texts, Closes, ClosesBy}
pub use Rattle.cap_tools.specs.inside.Packets.{unless_failed, report_at, Spends}
pub use Rattle.flt_ast.specs.Tree.{empty, truth}
pub use Rattle.flt_bpf.specs.{Content.Content, Listing.listing, declared.insn.Insn.Insn}
