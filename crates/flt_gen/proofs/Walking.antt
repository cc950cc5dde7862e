-- The walk over the nodes of a tree, the last first, puts the code of the tree's formula in front.
use Rattle.flt_gen.proofs.Common.{arith, Formula, Both, Either, Except, Compare, checked_formula, ◌+◌, if◌then◌else◌, ◌≡◌, ℕ, List, [], ◌∷◌, Bool, Option, Some}
use Rattle.flt_gen.proofs.Common.{None, with, Equal, refl, sym, ap, ◌∙◌, Insn, And, Or, Comparison, Node, Apply, Literal, Not, Constant, IndexRegister}
use Rattle.flt_gen.proofs.Common.{Operator, formula, Group, no_group, larger_group, or_any, or_group, group_formula, grouped_formula, NumberTree, literal, len}
use Rattle.flt_gen.proofs.Common.{named, load, negated, applied, TruthTree, qualified, compared, denied, joined, Expression, empty, truth, number_onto}
use Rattle.flt_gen.proofs.Common.{truth_onto, expr_onto, Link, Entry, protocols_of, relation_formula, Protocol, plain, computation, takes_constant}
use Rattle.flt_gen.proofs.Common.{emit_comparison, emit_operands, Store, Accumulator, emit_number, Block, emit_formula, emit_accessor_tests, program_code, Walk}
use Rattle.flt_gen.proofs.Common.{targets, finish_truth, finish_number, with_insns, finish_formula, flush_members, flush_group, emit_truth_node, emit_node}
use Rattle.flt_gen.proofs.{Common.start_walk, Common.insns_of, Common.emit_nodes, Common.option_map_or, Common.unwrap_or, Common.true, Decision.guarded_emitted}
use Rattle.flt_gen.specs.inside.Group.{is_empty, entry_formula, entry_of, leaf_formula}
use Rattle.flt_gen.specs.inside.{Relations.relation_of, Walk.others, Walk.emit_entry, Walk.emit_member, Walk.emit_apart, Walk.finish_group}
use Rattle.flt_gen.specs.declared.{code.Targets.Targets, waiting.LeftTruth.LeftTruth, waiting.Pending.Pending}

-- the tests of accessors stand in front of the formula that they guard
checked_emitted : (link : Link) (ps : List Protocol) (f : Formula) (hit miss : ℕ) (c : List Insn) → emit_formula link (checked_formula link ps f) hit
    miss c ≡ (let e = emit_formula link f hit miss c in emit_accessor_tests link ps e.entry miss e.code)
checked_emitted link [] f hit miss c = refl
checked_emitted link (p ∷ ps) f hit miss c = grind (arith, guarded_emitted, checked_emitted link ps f hit miss c)

-- a number's code and accessors are put
abbrev with_number : Link → NumberTree → Walk → Walk
with_number link a w = record w { code = emit_number link a w.slot w.code; accessors = protocols_of a w.accessors }

-- an operator whose right operand is a constant, which its instruction may have or not
constant_walked : (link : Link) (o : Operator) (k : ℕ) (a : NumberTree) (w : Walk) (d : List Node)
    → ((v : Walk) → emit_nodes link v (number_onto a d) ≡ emit_nodes link (finish_number link v.numbers (with_number link a v)) d) → (t : Bool)
    → emit_nodes link (unwrap_or (if t then Some (with_insns (plain (computation o Constant) k ∷ w.code) w) else None)
    (emit_node link (emit_node link w (Apply o)) (Literal k))) (number_onto a d) ≡ emit_nodes link (finish_number link w.numbers (record w {
      code = emit_number link a w.slot (option_map_or (λ j. plain (computation o Constant) j ∷ w.code) (if t then Some k else None)
          (plain (Store Accumulator) w.slot ∷ emit_number link (literal k) (w.slot + 1)
          (emit_operands w.slot (plain (computation o IndexRegister) 0 ∷ w.code))));
      accessors = protocols_of a w.accessors;
    })) d
constant_walked link o k a w d left t = grind arith

number_walked : (link : Link) (a : NumberTree) (w : Walk) (d : List Node) → emit_nodes link w (number_onto a d) ≡ emit_nodes link
    (finish_number link w.numbers (with_number link a w)) d
number_walked link (load p s (literal k)) w d = refl
number_walked link (load p s (named k)) w d = refl
number_walked link (load p s len) w d = refl
number_walked link (load p s a) w d = number_walked link a _ d
number_walked link (negated a) w d = number_walked link a _ d
number_walked link (applied o a (literal k)) w d = constant_walked link o k a w d (λ v. number_walked link a v d) (takes_constant o k)
number_walked link (applied o a (named k)) w d = number_walked link a _ d
number_walked link (applied o a len) w d = number_walked link a _ d
number_walked link (applied o a r) w d = number_walked link r _ (number_onto a d) ∙ number_walked link a _ d
number_walked link _ w d = refl

-- a walk between two truths, with members that wait, after a node
abbrev state : Pending → List Insn → Targets → List LeftTruth → Group → Walk
state p c to ts group = record { code = c; to = to; slot = 0; truths = ts; numbers = []; accessors = []; group = group; pending = p }

abbrev pub waiting : List Insn → Targets → List LeftTruth → Group → Walk
waiting c to ts group = state Pending.Nothing c to ts group

abbrev after_or : List Insn → Targets → List LeftTruth → Group → Walk
after_or c to ts group = state Pending.Or c to ts group

abbrev pub between : List Insn → Targets → List LeftTruth → Walk
between c to ts = waiting c to ts no_group

-- where a truth and the members after it go on
abbrev emit_of : Link → Formula → List Insn → Targets → List LeftTruth → Walk
emit_of link f c to ts = finish_truth (emit_formula link f to.yes to.no c) (between c to ts)

-- what comes in front of the group that waits, which is emitted first
settled : (link : Link) (group : Group) (p : Pending) (ts : List LeftTruth) (f : Formula) (d : List Node) (go : Walk → Walk)
    → ((c : List Insn) (to : Targets) → go (state p c to ts no_group) ≡ emit_nodes link (emit_of link f c to ts) d) → (c : List Insn) (to : Targets)
    (bs : List Entry) → go (flush_members link (state p c to ts group) (is_empty bs)) ≡ emit_nodes link
    (emit_of link (or_any f (group_formula link group) bs) c to ts) d
settled link group p ts f d go h c to bs = grind arith

leaf_walked : (link : Link) (f : Formula) (group : Group) (c : List Insn) (to : Targets) (ts : List LeftTruth) (d : List Node)
    → emit_nodes link (finish_formula link f (flush_members link (waiting c to ts group) (is_empty group.entries))) d ≡ emit_nodes link
    (emit_of link (or_group link f group) c to ts) d
leaf_walked link f group c to ts d = grind (arith, settled)

entry_walked : (link : Link) (e : Entry) (group : Group) (o : Option Group) (c : List Insn) (to : Targets) (ts : List LeftTruth) (d : List Node)
    → emit_nodes link (emit_entry link e (waiting c to ts group) o) d ≡ emit_nodes link
    (emit_of link (option_map_or (group_formula link) o (or_group link (entry_formula link e) group)) c to ts) d
entry_walked link e group o c to ts d = grind (arith, leaf_walked)

-- a comparison after the group that waits: a constant that is its right operand is in the test
abbrev comparison_walked : Link → Comparison → NumberTree → Walk → List Node → Walk
comparison_walked link k (literal j) w d = emit_nodes link (with_insns (emit_comparison k Constant j w.to.yes w.to.no w.code) w) d
comparison_walked link k b w d = emit_nodes link (emit_truth_node link w (Node.Compare k)) (number_onto b d)

compare_walked : (link : Link) (k : Comparison) (a b : NumberTree) (w : Walk) (d : List Node) → relation_of k a b ≡ None
    → emit_nodes link w (Node.Compare k ∷ number_onto b (number_onto a d)) ≡ comparison_walked link k b (flush_group link w) (number_onto a d)
compare_walked link Equal (load p s (literal i)) (literal j) w d none = cc
compare_walked link _ _ (literal j) w d none = refl
compare_walked link _ _ _ w d none = refl

relation_walked : (link : Link) (k : Comparison) (a b : NumberTree) (c : List Insn) (to : Targets) (ts : List LeftTruth) (d : List Node)
    → comparison_walked link k b (between c to ts) (number_onto a d) ≡ emit_nodes link (emit_of link (relation_formula link k a b) c to ts) d
relation_walked link k a b c to ts d =
    both b ∙ ap (λ (e : Block). emit_nodes link (finish_truth e (between c to ts)) d)
    (sym (checked_emitted link (protocols_of a (protocols_of b [])) (Compare k a b) to.yes to.no c))
  where
    both : (r : NumberTree) → comparison_walked link k r (between c to ts) (number_onto a d) ≡ (let e = emit_formula link (Compare k a r) to.yes to.no c in
        emit_nodes link (finish_truth (emit_accessor_tests link (protocols_of a (protocols_of r [])) e.entry to.no e.code) (between c to ts)) d)
    both (literal j) = number_walked link a _ d
    both (named j) = number_walked link a _ d
    both len = number_walked link a _ d
    both r = number_walked link r _ (number_onto a d) ∙ number_walked link a _ d

-- an entry is a member of the group that waits, or comes after it
member_is : (x e : Entry) (link : Link) (w : Walk) (d : List Node) → Some x ≡ Some e → emit_nodes link (emit_member link x w) d ≡ emit_nodes link
    (emit_member link e w) d
member_is x e link w d is = (let same : x ≡ e = cc in ap (λ y. emit_nodes link (emit_member link y w) d) same)

entry_nodes : (link : Link) (b : TruthTree) (e : Entry) (w : Walk) (d : List Node) → entry_of b ≡ Some e → emit_nodes link w (truth_onto b d) ≡
    emit_nodes link (emit_member link e w) d
entry_nodes link (qualified q v) e w d is = member_is (Entry.Value q v) e link w d is
entry_nodes link (compared Equal (load p s (literal i)) (literal j)) e w d is = member_is _ e link w d is
entry_nodes link (compared _ _ _) e w d is = cc
entry_nodes link _ e w d is = cc

compared_walked : (link : Link) (k : Comparison) (a b : NumberTree) (group : Group) (o : Option Entry) → relation_of k a b ≡ o
    → (c : List Insn) (to : Targets) (ts : List LeftTruth) (d : List Node) → emit_nodes link (waiting c to ts group) (truth_onto (compared k a b) d) ≡
    emit_nodes link (emit_of link (leaf_formula link o (relation_formula link k a b) group) c to ts) d
compared_walked link k a b group None none c to ts d =
    compare_walked link k a b (waiting c to ts group) d none
    ∙ settled link group Pending.Nothing ts (relation_formula link k a b) d (λ w. comparison_walked link k b w (number_onto a d))
    (λ c to. relation_walked link k a b c to ts d) c to group.entries
compared_walked link k a b group (Some e) is c to ts d = entry_nodes link (compared k a b) e (waiting c to ts group) d is ∙ entry_walked link e group
    (larger_group e group) c to ts d

-- a right operand of an or that is no entry is on its own, and the left one waits for it
abbrev left_after_or : Targets → LeftTruth
left_after_or to = record { join = Or; to = to }

right_begins : (link : Link) (b : TruthTree) (c : List Insn) (to : Targets) (ts : List LeftTruth) (group : Group) (d : List Node) → entry_of b ≡ None
    → emit_nodes link (after_or c to ts group) (truth_onto b d) ≡ emit_nodes link (waiting c to (left_after_or to ∷ ts) group) (truth_onto b d)
right_begins link (qualified q v) c to ts group d e = cc
right_begins link (compared k a b) c to ts group d e = compare_walked link k a b (after_or c to ts group) d e
    ∙ sym (compare_walked link k a b (waiting c to (left_after_or to ∷ ts) group) d e)
right_begins link (joined And a b) c to ts group d e = refl
right_begins link _ c to ts group d e = refl

abbrev Walks : Link → TruthTree → Group → Type 0
Walks link a group =
    (c : List Insn) (to : Targets) (ts : List LeftTruth) (d : List Node) → emit_nodes link (waiting c to ts group) (truth_onto a d) ≡ emit_nodes link
    (emit_of link (grouped_formula link group a) c to ts) d

both_walked : (link : Link) (a b : TruthTree) → Walks link a no_group → Walks link b no_group → (c : List Insn) (to : Targets) (ts : List LeftTruth)
    (d : List Node) → emit_nodes link (between c to (record { join = And; to = to } ∷ ts)) (truth_onto b (truth_onto a d)) ≡ emit_nodes link
    (emit_of link (Both (grouped_formula link no_group a) (grouped_formula link no_group b)) c to ts) d
both_walked link a b ha hb c to ts d = grind arith

-- the group that waited is empty once its code is emitted
flushed_group : (link : Link) (w : Walk) (none : Bool) → (flush_members link w none).group ≡ no_group
flushed_group link w none = grind arith

-- either of two truths, of which the second one may join the group after it, or begin another one
module _ (link : Link) (a b : TruthTree) (ha : (more : Group) → Walks link a more) (hb : (more : Group) → Walks link b more) (ts : List LeftTruth)
    (d : List Node) where
  abbrev either : Group → Option Group → Option Group → Formula
  either group o p = option_map_or (λ more. grouped_formula link more a) o (option_map_or (λ new. or_group link (grouped_formula link new a) group) p
      (Either (grouped_formula link no_group a) (grouped_formula link group b)))

  begins : (group : Group) (c : List Insn) (to : Targets) → emit_nodes link (waiting c to (left_after_or to ∷ ts) group)
      (truth_onto b (truth_onto a d)) ≡ emit_nodes link (emit_of link (Either (grouped_formula link no_group a) (grouped_formula link group b)) c to ts) d
  begins group c to =
      let x = emit_formula link (grouped_formula link group b) to.yes to.no c in
      hb group c to (left_after_or to ∷ ts) (truth_onto a d) ∙ ha no_group x.code (targets to.yes x.entry) ts d

  new_begins : (new group : Group) (c : List Insn) (to : Targets) (bs : List Entry)
      → (let v = flush_members link (waiting c to (left_after_or to ∷ ts) group) (is_empty bs) in
      emit_nodes link (record v { truths = others v.truths; group = new }) (truth_onto a d)) ≡ emit_nodes link
      (emit_of link (or_any (grouped_formula link new a) (group_formula link group) bs) c to ts) d
  new_begins new group c to bs = grind arith

  apart : (e : Entry) (group : Group) (c : List Insn) (to : Targets) (p : Option Group) → larger_group e no_group ≡ p
      → emit_nodes link (emit_entry link e (after_or c to ts group) None) (truth_onto a d) ≡ emit_nodes link
      (emit_apart link e (flush_members link (waiting c to (left_after_or to ∷ ts) group) (is_empty group.entries)) Pending.Or p) (truth_onto a d)
  apart e group c to p is = grind (arith, flushed_group)

  or_member : (e : Entry) (group : Group) (c : List Insn) (to : Targets) → entry_of b ≡ Some e → (o p : Option Group) → larger_group e group ≡ o
      → larger_group e no_group ≡ p → emit_nodes link (emit_entry link e (after_or c to ts group) o) (truth_onto a d) ≡ emit_nodes link
      (emit_of link (either group o p) c to ts) d
  or_member e group c to is None None none alone = grind (arith, apart, entry_nodes, begins)
  or_member e group c to is None (Some new) none begun = apart e group c to (Some new) begun ∙ new_begins new group c to group.entries
  or_member e group c to is (Some more) p some q = ha more c to ts d

  either_walked : (group : Group) (c : List Insn) (to : Targets) (o : Option Entry) → entry_of b ≡ o → emit_nodes link (after_or c to ts group)
      (truth_onto b (truth_onto a d)) ≡ emit_nodes link
      (emit_of link (either group (with o (λ e. larger_group e group)) (with o (λ e. larger_group e no_group))) c to ts) d
  either_walked group c to None is = right_begins link b c to ts group (truth_onto a d) is ∙ begins group c to
  either_walked group c to (Some e) is = entry_nodes link b e (after_or c to ts group) (truth_onto a d) is ∙ or_member e group c to is
      (larger_group e group) (larger_group e no_group) refl refl

truth_walked : (link : Link) (a : TruthTree) (group : Group) → Walks link a group
truth_walked link (qualified q v) group = entry_walked link (Entry.Value q v) group (larger_group (Entry.Value q v) group)
truth_walked link (compared k a b) group = compared_walked link k a b group (relation_of k a b) refl
truth_walked link (denied a) group =
    λ c to ts d. settled link group Pending.Nothing ts (Except (grouped_formula link no_group a)) d
    (λ w. emit_nodes link (emit_truth_node link w Not) (truth_onto a d)) (λ c to. truth_walked link a no_group c (targets to.no to.yes) ts d) c to group.entries
truth_walked link (joined And a b) group = grind (arith, settled, both_walked, truth_walked link a no_group, truth_walked link b no_group)
truth_walked link (joined Or a b) group =
    λ c to ts d. either_walked link a b (λ more. truth_walked link a more) (λ more. truth_walked link b more) ts d group c to (entry_of b) refl
truth_walked link a group = leaf_walked link (formula link a) group

-- the walk over a whole expression makes its program
pub expression_walked : (link : Link) (e : Expression) → insns_of (emit_nodes link start_walk (expr_onto e)) ≡ program_code link e
expression_walked link empty = refl
expression_walked link (truth a) = ap insns_of (truth_walked link a no_group start_walk.code start_walk.to [] [])

-- ---- an entry that stands alone is emitted by itself, whether it may be a member or not

one_formula : (link : Link) (e : Entry) (group : Group) → group.entries ≡ e ∷ [] → group_formula link group ≡ entry_formula link e
one_formula link e group is = grind arith

one_member : (e : Entry) (group more : Group) → group.entries ≡ [] → larger_group e group ≡ Some more → more.entries ≡ e ∷ []
one_member e group more none some = grind arith

none_of : (es : List Entry) → is_empty es ≡ true → es ≡ []
none_of es no_entry = grind arith

pub alone_emitted : (link : Link) (e : Entry) (w : Walk) → w.pending ≡ Pending.Nothing → is_empty w.group.entries ≡ true
    → emit_entry link e w (larger_group e w.group) ≡ finish_formula link (entry_formula link e) (record w { group = no_group })
alone_emitted link e w pending no_entry = by (larger_group e w.group) refl
  where
    none : w.group.entries ≡ []
    none = none_of w.group.entries no_entry

    v : Walk
    v = record w { group = no_group }

    flushed : flush_group link w ≡ v
    flushed = grind arith

    by : (o : Option Group) → larger_group e w.group ≡ o → emit_entry link e w o ≡ finish_formula link (entry_formula link e) v
    by None is = ap (λ u. emit_apart link e u w.pending (larger_group e u.group)) flushed ∙ ap (λ p. emit_apart link e v p (larger_group e no_group)) pending
    by (Some more) is = ap (finish_group link w more) pending ∙ ap (λ f. finish_formula link f v) (one_formula link e more (one_member e w.group more none is))
