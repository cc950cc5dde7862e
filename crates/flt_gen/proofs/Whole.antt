-- The wide code of an expression decides it, within its bounds; and so does what replaces it.
use Rattle.flt_gen.proofs.Common.{◌≡◌, ℕ, ◌+◌, ◌-◌, ◌*◌, ◌≤◌, List, [], length, drop, take, true, false, cond, Some, None, refl, sym, ap, ◌∙◌, subst, arith}
use Rattle.flt_gen.proofs.Common.{fold, length-drop, ◌≢◌, ◌↔◌, reverse, All-cons, All-drop, sum_by-take-drop, Insn, answer_of, IsValidUnlessLong, is_branch}
use Rattle.flt_gen.proofs.Common.{JUMP, HasNoJump, IsShort, start, valid_if_short, faultless_drop, ends_drop, answer_drop, machine_answers, Node, tests_of}
use Rattle.flt_gen.proofs.Common.{nodes_of, words_of, bound_of, expr_nodes, is_unfilled, some_primitive, Expression, empty, truth, Link, MatchResult, Yes}
use Rattle.flt_gen.proofs.Common.{IsProgramOf, short_bound_of, holds, with_folded, folded_expression, no_group, grouped_formula, returns_code, expression_code}
use Rattle.flt_gen.proofs.{Common.program_code, Common.emit_nodes, Common.start_walk, Common.insns_of, Folded.expression_folded, Folded.nodes_folded}
use Rattle.flt_gen.proofs.{Grouping.kept_none, Grouping.grouped_stands, Leads.HasWords, Leads.Leads, Leads.leads_to, Walking.expression_walked, Exclusive.or_no}
use Rattle.flt_gen.proofs.{Grows.branches, Grows.Sound, Grows.none_by, Grows.FitsBy, Grows.more_by, Grows.emitted_by, Runs.pick, Runs.emitted_leads}
use Rattle.flt_bpf.{specs.Check.fault_of, specs.Instructions.operation_of, specs.Valid.IsValid, specs.Machine.step, proofs.Checking.parts}
use Rattle.flt_gen.specs.inside.Round.{IsRound}
use Rattle.flt_short.proofs.Likeness.{met_of}

-- code that answers a packet, by an answer other than 0 exactly where the expression matches
pub record Decided (code : List Insn) (e : Expression) (link : Link) (p : List ℕ) (n : ℕ) : Type 0 where
  pub answer : ℕ
  pub answered : answer_of code p n 0 start ≡ Some answer
  pub right : (answer ≢ 0) ↔ (holds e link p n ≡ Yes)

-- wide code of an expression: with two jumps more for each branch it is still within the bound
pub record IsCodeOf (code : List Insn) (e : Expression) (link : Link) : Type 0 where
  pub no_jump : HasNoJump code
  pub short : length code ≤ short_bound_of e
  pub bounded : length code + 2 * branches code ≤ bound_of e
  pub decides : (p : List ℕ) (n : ℕ) → Decided code e link p n

-- such code that is valid, unless it is too long
pub record IsMadeOf (code : List Insn) (e : Expression) (link : Link) : Type 0 where
  pub is : IsCodeOf code e link
  pub valid : IsValidUnlessLong code

returns_sound : Sound returns_code
unfolding fault_of operation_of
returns_sound = grind (arith, All-cons)

no_branches : branches returns_code ≡ 0
unfolding operation_of
no_branches = refl

returns_lead : (p : List ℕ) (n : ℕ) → Leads p n HasWords returns_code 2 262144 × Leads p n HasWords returns_code 1 0
unfolding step operation_of
returns_lead p n = (record { inside = omega arith; by = λ s long. refl }, record { inside = omega arith; by = λ s long. refl })

pick_right : (r : MatchResult) → (pick r 262144 0 ≢ 0) ↔ (r ≡ Yes)
pick_right r = grind arith

-- how the code of an expression stands on the two returns, and where it leads
fits : (link : Link) (e : Expression) → some_primitive is_unfilled e ≡ false → words_of e ≤ 16 → FitsBy true returns_code (expression_code link e)
    (4 * tests_of e + 6 * nodes_of e) (6 * (tests_of e + nodes_of e))
fits link empty filled few = grind (arith, more_by, none_by, returns_sound)
fits link (truth a) filled few =
    let s = grouped_stands link a no_group kept_none filled in
    more_by true _ _ (omega (arith, s.short_fit, s.nodes_fit)) (omega (arith, s.light_fit, s.nodes_fit))
    (emitted_by true None link (grouped_formula link no_group a) 2 1 returns_code (omega (arith, s.words_fit)) returns_sound (omega arith) (omega arith))

leads : (link : Link) (e : Expression) → some_primitive is_unfilled e ≡ false → words_of e ≤ 16 → (p : List ℕ) (n : ℕ)
    → Leads p n HasWords (expression_code link e).code (expression_code link e).entry (pick (holds e link p n) 262144 0)
leads link empty filled few p n = (returns_lead p n).0
leads link (truth a) filled few p n =
    let s = grouped_stands link a no_group kept_none filled in
    leads_to p n (ap (λ r. pick r 262144 0) (s.reads_are p n ∙ or_no _))
    (emitted_leads p n link (grouped_formula link no_group a) 2 1 262144 0 returns_code (omega (arith, s.words_fit)) (returns_lead p n).0 (returns_lead p n).1)

-- what is left of code
branches_drop : (c : List Insn) (k : ℕ) → branches (drop k c) ≤ branches c
branches_drop c k =
    let parts : branches (take k c) + branches (drop k c) ≡ branches c = sum_by-take-drop (λ i. cond (is_branch (operation_of i.code)) 1 0) c k in omega arith

program_made : (link : Link) (e : Expression) → some_primitive is_unfilled e ≡ false → words_of e ≤ 16 → IsMadeOf (program_code link e) e link
program_made link e filled few =
    let x = expression_code link e in let k = length x.code - x.entry in let f = fits link e filled few in let g = f.grows in
    record {
      is = record {
        no_jump = All-drop (λ i. i.code ≢ JUMP) k x.code g.sound.no_jump;
        short = omega (arith, g.shorter, length-drop k x.code);
        bounded = omega (arith, g.lighter, no_branches, length-drop k x.code, branches_drop x.code k);
        decides = λ p n. record {
          answer = pick (holds e link p n) 262144 0;
          answered = answer_drop x.code p n k start ∙ (leads link e filled few p n).by start refl;
          right = pick_right (holds e link p n);
        };
      };
      valid = record {
        faultless = faultless_drop x.code k g.sound.valid.faultless;
        ends = ends_drop x.code k (omega (arith, f.entry.low, f.entry.upper_bound)) g.sound.valid.ends;
      };
    }

-- code of the folded expression is code of the expression
folded_code : (code : List Insn) (e : Expression) (link : Link) → IsCodeOf code (folded_expression e) link → IsCodeOf code e link
folded_code code e link h = record {
  no_jump = h.no_jump;
  short = omega (arith, h.short, (expression_folded e).short);
  bounded = omega (arith, h.bounded, (expression_folded e).bound);
  decides = λ p n.
      let d = h.decides p n in
      record { answer = d.answer; answered = d.answered; right = subst (λ r. (d.answer ≢ 0) ↔ (r ≡ Yes)) ((expression_folded e).same p n link) d.right };
}

-- such code with the same answers in its place, which is no longer and has no more branches
replaced_code : (new old : List Insn) (e : Expression) (link : Link) → IsCodeOf old e link → HasNoJump new → length new ≤ length old
    → branches new ≤ branches old → ((p : List ℕ) (n answer : ℕ) → answer_of old p n 0 start ≡ Some answer → answer_of new p n 0 start ≡ Some answer)
    → IsCodeOf new e link
replaced_code new old e link h no_jump shorter fewer runs = record {
  no_jump = no_jump;
  short = omega (arith, h.short);
  bounded = omega (arith, h.bounded);
  decides = λ p n. let d = h.decides p n in record { answer = d.answer; answered = runs p n d.answer d.answered; right = d.right };
}

made : (link : Link) (e : Expression) (walked folded tree : List Node) (wide : List Insn) → some_primitive is_unfilled e ≡ false → words_of e ≤ 16
    → walked ≡ folded → reverse folded ≡ fold with_folded [] tree → tree ≡ expr_nodes e
    → wide ≡ insns_of (emit_nodes link start_walk (reverse walked)) → IsMadeOf wide e link
made link e walked folded tree wide filled few w f n c =
    let same : wide ≡ program_code link (folded_expression e) = grind (arith, nodes_folded, expression_walked) in
    let d = folded_expression e in let h = expression_folded e in
    let m = subst (λ code. IsMadeOf code d link) (sym same) (program_made link d (h.filled ∙ filled) (omega (arith, h.words))) in
    record { is = folded_code wide e link m.is; valid = m.valid }

-- after a round of the optimiser
once_more : (link : Link) (e : Expression) (code short : List Insn) → bound_of e ≤ 32768 → IsRound short code → IsMadeOf code e link → IsMadeOf short e link
once_more link e code short within r m =
    let t = r.threads in let s = r.shortens in
    let is = replaced_code r.moved code e link m.is (t.no_jump m.is.no_jump) (omega (arith, t.same_length)) (omega (arith, t.branches))
    (λ p n answer was. t.runs p n ∙ was) in
    let v = parts short (s.valid (valid_if_short r.moved (t.sound m.valid) (omega (arith, is.bounded)))) in
    record {
      is = replaced_code short r.moved e link is (s.no_jump is.no_jump) s.shorter s.fewer (λ p n answer i.
          let was = machine_answers r.moved p n answer i in let now = s.runs p n answer was.met was.answered in
          (met_of p n short (length short) 0 0 start answer now.count now.answered).answer);
      valid = record { faultless = v.faultless; ends = v.ends };
    }

-- and after two
pub made_short : (link : Link) (e : Expression) (walked folded tree : List Node) (wide once short : List Insn) → some_primitive is_unfilled e ≡ false
    → words_of e ≤ 16 → bound_of e ≤ 32768 → walked ≡ folded → reverse folded ≡ fold with_folded [] tree → tree ≡ expr_nodes e
    → wide ≡ insns_of (emit_nodes link start_walk (reverse walked)) → IsRound once wide → IsRound short once → IsMadeOf short e link
made_short link e walked folded tree wide once short filled few within w f n c r r' =
    once_more link e once short within r' (once_more link e wide once within r (made link e walked folded tree wide filled few w f n c))

-- what is laid out of it keeps every promise
pub laid_program : (new code : List Insn) (e : Expression) (link : Link)
    → ((p : List ℕ) (n : ℕ) → answer_of new p n 0 start ≡ answer_of code p n 0 start) → length new ≤ length code + 2 * branches code
    → IsMadeOf code e link → IsProgramOf new e link
laid_program new code e link same at_most m = record {
  bounded = omega (arith, m.is.bounded);
  decides = λ p n.
      let d = m.is.decides p n in let r = machine_answers new p n d.answer (same p n ∙ d.answered) in
      record { answer = d.answer; count = r.met; answered = r.answered; upper_bound = omega (arith, r.upper_bound); right = d.right };
}

pub laid_valid : (new code : List Insn) (e : Expression) (link : Link) → bound_of e ≤ 32768 → length new ≤ length code + 2 * branches code
    → (IsValidUnlessLong code → length new ≤ 32768 → IsValid new) → IsMadeOf code e link → IsValid new
laid_valid new code e link within at_most valid m = valid m.valid (omega (arith, m.is.bounded))

pub laid_short : (new code : List Insn) (e : Expression) (link : Link) → short_bound_of e ≤ 256
    → (HasNoJump code → length code ≤ 256 → IsShort new (length code)) → IsMadeOf code e link → IsShort new (short_bound_of e)
laid_short new code e link few short m = grind arith
