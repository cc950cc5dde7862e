-- The order of a merge, as lists: the packets of its inputs, sorted.
use Rattle.std.specs.Prelude.{◌≡◌, ◌⊎◌, ℕ, ◌<◌, ◌≤◌, nat_eq, if◌then◌else◌, List, [], ◌∷◌, ◌++◌, map, IsPermutation}
use Rattle.cap_io.specs.Sequence.{Entry, Event, Packet, SequenceEnd, Complete, FaultIn, InputItems, ByTime, all_entries, fault_without_packets, sequence_of}

-- One packet comes no later than another: by the greatest time in its input up to and including it,
-- then by the input's number.
abbrev pub IsNoLater : Entry → Entry → Type 0
IsNoLater x y = (x.key < y.key) ⊎ ((x.key ≡ y.key) × (x.input ≤ y.input))

-- a packet comes no later than each of these
abbrev pub IsNoLaterThan : Entry → List Entry → Type 0
IsNoLaterThan e [] = Unit {0}
IsNoLaterThan e (x ∷ xs) = IsNoLater e x × IsNoLaterThan e xs

-- each packet comes no later than those after it
abbrev pub AreSorted : List Entry → Type 0
AreSorted [] = Unit {0}
AreSorted (e ∷ es) = IsNoLaterThan e es × AreSorted es

-- the entries of one input, in their order in the list
abbrev pub of_input : ℕ → List Entry → List Entry
of_input input [] = []
of_input input (e ∷ es) =
    if nat_eq e.input input then e ∷ of_input input es else of_input input es

-- packets as events
abbrev pub events_of : List Entry → List Event
events_of es = map (λ (e : Entry). Packet e.input e.p) es

-- if the order ends with a fault here, no packet comes and that is its end; otherwise `Else`
abbrev pub StopsBy : SequenceEnd → List Entry → SequenceEnd → Type 0 → Type 0
StopsBy Complete come end Else = Else
StopsBy (FaultIn input fault offset) come end Else =
    (come ≡ []) × (end ≡ FaultIn input fault offset)

-- `come` ends with the first packet that is the last of an input which ends with a fault, and the
-- order ends with that fault; if there is none, `later` is empty and the order ends cleanly.
-- `later` are the packets that don't come.
abbrev pub StopAtFault : (come later : List Entry) → SequenceEnd → Type 0
StopAtFault [] later end = (later ≡ []) × (end ≡ Complete)
StopAtFault (e ∷ come) later end = StopsBy e.end come end (StopAtFault come later end)

-- A merge of these inputs: all their packets, sorted by (greatest time in the input up to and
-- including the packet, input, place in the input), of which a prefix comes: none if an input
-- without packets ends with a fault, else up to the first such end. All come if the order doesn't
-- end with a fault.
pub record IsMerge (rs : List InputItems) : Type 0 where
  pub sorted : List Entry
  pub order : AreSorted sorted
  pub all : IsPermutation (all_entries 0 rs) sorted
  pub places : (input : ℕ) → of_input input sorted ≡ of_input input (all_entries 0 rs)
  pub come : List Entry
  pub later : List Entry
  pub parts : sorted ≡ come ++ later
  pub events : (sequence_of ByTime rs).events ≡ events_of come
  pub whole : (sequence_of ByTime rs).end ≡ Complete → later ≡ []
  pub stops : StopsBy (fault_without_packets 0 rs) come (sequence_of ByTime rs).end
      (StopAtFault come later (sequence_of ByTime rs).end)

-- the law: the sequence of every merge satisfies IsMerge
abbrev pub MergesSort : Type 0
MergesSort = (rs : List InputItems) → IsMerge rs
