-- Completing the qualifiers of the nodes completes those of the tree, and a fault of a node is a
-- fault of a primitive.
use Rattle.std.proofs.Common.{◌≡◌, List, [], ◌∷◌, refl, sym, ap, ◌∙◌, Bool, true, false, not, ◌||◌, map, ◌&&◌, is_some, Option, Some, None, unwrap_or}
use Rattle.std.specs.List.{list_any}
use Rattle.flt_lang.proofs.Common.{Node, Qualifiers, fill_expression, Direction, Value, or_parts, or_from, Join, or_assoc, or-false}
use Rattle.flt_ast.specs.Tree.{NumberTree, load, negated, applied, TruthTree, valued, qualified, compared, denied, joined, Expression, empty, truth}
use Rattle.flt_ast.specs.Nodes.{number_nodes, truth_nodes, expr_nodes, tree_of}
use Rattle.flt_ast.specs.Fits.{is_size, fit_of, is_misfit_fit, is_proto, is_either}
use Rattle.flt_ast.specs.Resolved.{has_wrong_size, is_misfit, is_out_of_range, has_bits_past_mask, any_primitive, some_primitive, tree_fault, is_misfit_node}
use Rattle.flt_ast.specs.Resolved.{is_out_of_range_node, has_bits_past_mask_node, is_unfilled, first_fault, fill_fault, IsResolved}
use Rattle.flt_ast.specs.Filled.{latest, with_inherited, complete, only_host, expr_inherited, completed_node, type_or_host, completed_qualifiers}
use Rattle.flt_ast.specs.inside.{Nodes.tree_back, Nodes.IsTree, Resolved.nodes_fault, Filled.inherited_nodes}
use Rattle.flt_ast.specs.declared.node.Node.TheVariants as node
use Rattle.flt_ast.specs.declared.qualifiers.Direction.TheVariants as direction

-- neither a denial nor a chain
abbrev is_primitive : TruthTree → Bool
is_primitive (denied a) = false
is_primitive (joined j a b) = false
is_primitive _ = true

-- a test of nodes and one of primitives agree
record Agrees (g : Node → Bool) (f : TruthTree → Bool) : Type 0 where
  primitives : (a : TruthTree) (rest : List Node) → is_primitive a ≡ true → list_any g (truth_nodes a rest) ≡ (f a || list_any g rest)
  denials : g node.Not ≡ false
  joins : (j : Join) → g (node.Join j) ≡ false

any_nodes : (g : Node → Bool) (f : TruthTree → Bool) → Agrees g f → (a : TruthTree) (rest : List Node) → list_any g (truth_nodes a rest) ≡
    (any_primitive f a || list_any g rest)
any_nodes g f s (denied a) rest = any_nodes g f s a (node.Not ∷ rest) ∙ rw s.denials refl
any_nodes g f s (joined j a b) rest =
    any_nodes g f s a (truth_nodes b (node.Join j ∷ rest)) ∙ ap (λ r. any_primitive f a || r) (any_nodes g f s b (node.Join j ∷ rest)
    ∙ rw (s.joins j) refl) ∙ sym (or_assoc (any_primitive f a) (any_primitive f b) (list_any g rest))
any_nodes g f s a rest = s.primitives a rest refl

some_node : (g : Node → Bool) (f : TruthTree → Bool) → Agrees g f → (e : Expression) → list_any g (expr_nodes e) ≡ some_primitive f e
some_node g f s empty = refl
some_node g f s (truth a) = any_nodes g f s a [] ∙ or-false (any_primitive f a)

-- only a value is a misfit, and only a value has bits past its mask
number_fits : (a : NumberTree) (rest : List Node) → list_any is_misfit_node (number_nodes a rest) ≡ list_any is_misfit_node rest
number_fits (load q z a) rest = number_fits a _
number_fits (negated a) rest = number_fits a _
number_fits (applied i a b) rest = number_fits a _ ∙ number_fits b _
number_fits _ rest = refl

misfit_primitive : (a : TruthTree) (rest : List Node) → is_primitive a ≡ true → list_any is_misfit_node (truth_nodes a rest) ≡
    (is_misfit a || list_any is_misfit_node rest)
misfit_primitive (compared c a b) rest h = number_fits a _ ∙ number_fits b _
misfit_primitive (denied a) rest h = cc
misfit_primitive (joined j a b) rest h = cc
misfit_primitive _ rest h = refl

number_in_mask : (a : NumberTree) (rest : List Node) → list_any has_bits_past_mask_node (number_nodes a rest) ≡ list_any has_bits_past_mask_node rest
number_in_mask (load q z a) rest = number_in_mask a _
number_in_mask (negated a) rest = number_in_mask a _
number_in_mask (applied i a b) rest = number_in_mask a _ ∙ number_in_mask b _
number_in_mask _ rest = refl

past_primitive : (a : TruthTree) (rest : List Node) → is_primitive a ≡ true → list_any has_bits_past_mask_node (truth_nodes a rest) ≡
    (has_bits_past_mask a || list_any has_bits_past_mask_node rest)
past_primitive (compared c a b) rest h = number_in_mask a _ ∙ number_in_mask b _
past_primitive (denied a) rest h = cc
past_primitive (joined j a b) rest h = cc
past_primitive _ rest h = refl

-- the sizes of accessors
number_sizes : (a : NumberTree) (rest : List Node) → list_any is_out_of_range_node (number_nodes a rest) ≡
    (has_wrong_size a || list_any is_out_of_range_node rest)
number_sizes (load p s a) rest = number_sizes a (node.Load p s ∷ rest)
    ∙ sym (or_assoc (has_wrong_size a) (not (is_size s)) (list_any is_out_of_range_node rest))
number_sizes (negated a) rest = number_sizes a (node.Negate ∷ rest)
number_sizes (applied o a b) rest =
    search (
      number_nodes,
      has_wrong_size,
      or_assoc,
      list_any,
      is_out_of_range_node,
      (number_sizes a (number_nodes b (node.Apply o ∷ rest))),
      (number_sizes b
          (node.Apply o ∷ rest)),
    )
number_sizes _ rest = refl

range_primitive : (a : TruthTree) (rest : List Node) → is_primitive a ≡ true → list_any is_out_of_range_node (truth_nodes a rest) ≡
    (is_out_of_range a || list_any is_out_of_range_node rest)
range_primitive (compared c a b) rest h = search (number_sizes, number_nodes, has_wrong_size, or_assoc, list_any, is_out_of_range_node)
range_primitive (denied a) rest h = cc
range_primitive (joined j a b) rest h = cc
range_primitive _ rest h = refl

-- the fault of the nodes is that of the tree
pub fault_is : (e : Expression) → nodes_fault (expr_nodes e) ≡ tree_fault e
fault_is e =
    let misfits = some_node is_misfit_node is_misfit (record { primitives = misfit_primitive; denials = refl; joins = λ _. refl }) e in
    let ranges = some_node is_out_of_range_node is_out_of_range (record { primitives = range_primitive; denials = refl; joins = λ _. refl }) e in
    let pasts = some_node has_bits_past_mask_node has_bits_past_mask (record { primitives = past_primitive; denials = refl; joins = λ _. refl }) e in
    rw (misfits, ranges, pasts) refl

-- the nodes of a filled tree
number_inherited : (a : NumberTree) (q : Qualifiers) (rest : List Node) → inherited_nodes q (number_nodes a rest) ≡ number_nodes a (inherited_nodes q rest)
number_inherited (load p s a) q rest = number_inherited a q _
number_inherited (negated a) q rest = number_inherited a q _
number_inherited (applied o a b) q rest = number_inherited a q _ ∙ ap (number_nodes a) (number_inherited b q _)
number_inherited _ q rest = refl

truth_inherited : (a : TruthTree) (q : Qualifiers) (rest : List Node) → inherited_nodes q (truth_nodes a rest) ≡ truth_nodes (with_inherited q a)
    (inherited_nodes (latest q a) rest)
truth_inherited (compared c a b) q rest = search (number_inherited, number_nodes)
truth_inherited (denied a) q rest = truth_inherited a q _
truth_inherited (joined j a b) q rest = truth_inherited a q _ ∙ ap (truth_nodes (with_inherited q a)) (truth_inherited b (latest q a) _)
truth_inherited _ q rest = refl

expr_is_inherited : (e : Expression) → inherited_nodes only_host (expr_nodes e) ≡ expr_nodes (expr_inherited e)
expr_is_inherited empty = refl
expr_is_inherited (truth a) = truth_inherited a only_host []

number_completed : (a : NumberTree) (rest : List Node) → map completed_node (number_nodes a rest) ≡ number_nodes a (map completed_node rest)
number_completed (load p s a) rest = number_completed a _
number_completed (negated a) rest = number_completed a _
number_completed (applied o a b) rest = number_completed a _ ∙ ap (number_nodes a) (number_completed b _)
number_completed _ rest = refl

truth_completed : (a : TruthTree) (rest : List Node) → map completed_node (truth_nodes a rest) ≡ truth_nodes (complete a) (map completed_node rest)
truth_completed (compared c a b) rest = number_completed a _ ∙ ap (number_nodes a) (number_completed b _)
truth_completed (denied a) rest = truth_completed a _
truth_completed (joined j a b) rest = truth_completed a _ ∙ ap (truth_nodes (complete a)) (truth_completed b _)
truth_completed _ rest = refl

expr_completed : (e : Expression) → map completed_node (expr_nodes (expr_inherited e)) ≡ expr_nodes (fill_expression e)
expr_completed empty = refl
expr_completed (truth a) = truth_completed (with_inherited only_host a) []

-- the same for a complete tree
pub inherited_whole : (items news : List Node) → IsTree items → news ≡ inherited_nodes only_host items → news ≡ expr_nodes (expr_inherited (tree_of items))
inherited_whole items news whole same = same ∙ ap (inherited_nodes only_host) (sym whole) ∙ expr_is_inherited (tree_of items)

pub filled_whole : (items mid news : List Node) → IsTree items → mid ≡ inherited_nodes only_host items → news ≡ map completed_node mid
    → news ≡ expr_nodes (fill_expression (tree_of items))
filled_whole items mid news whole inherits completes = completes ∙ ap (map completed_node) (inherited_whole items mid whole inherits)
    ∙ expr_completed (tree_of items)

-- the nodes of a tree are that tree
pub nodes_are_tree : (e : Expression) (news : List Node) → news ≡ expr_nodes e → IsTree news
nodes_are_tree e news same = rw same (ap expr_nodes (tree_back e))

pub tree_is : (e : Expression) (news : List Node) → news ≡ expr_nodes e → tree_of news ≡ e
tree_is e news same = ap tree_of same ∙ tree_back e

-- what is true of no primitive of a tree is true of none of the completed tree
completed_keeps : (f : TruthTree → Bool) → ((q : Qualifiers) (v : Value) → f (valued q v) ≡ false → f (qualified (completed_qualifiers q) v) ≡ false)
    → (a : TruthTree) → any_primitive f a ≡ false → any_primitive f (complete a) ≡ false
completed_keeps f keeps (valued q v) h = keeps q v h
completed_keeps f keeps (denied a) h = completed_keeps f keeps a h
completed_keeps f keeps (joined j a b) h =
    let (left, right) = or_parts (any_primitive f a) (any_primitive f b) h in
    or_from (any_primitive f (complete a)) (any_primitive f (complete b)) (completed_keeps f keeps a left) (completed_keeps f keeps b right)
completed_keeps f keeps _ h = h

filled_keeps : (f : TruthTree → Bool) → ((q : Qualifiers) (v : Value) → f (valued q v) ≡ false → f (qualified (completed_qualifiers q) v) ≡ false)
    → (e : Expression) → some_primitive f (expr_inherited e) ≡ false → some_primitive f (fill_expression e) ≡ false
filled_keeps f keeps empty h = h
filled_keeps f keeps (truth a) h = completed_keeps f keeps (with_inherited only_host a) h

-- no direction that is written is one that is filled in
undirected : (x t : Bool) (d : Option Direction) → (x || t && is_some d) ≡ false → (x || t && not (is_either (unwrap_or d (direction.Both Join.Or)))) ≡ false
undirected x t None h = h
undirected true t (Some d) h = cc
undirected false true (Some d) h = cc
undirected false false (Some d) h = refl

-- no bare value remains
none_bare : (q : Qualifiers) (a : TruthTree) → any_primitive is_unfilled (complete (with_inherited q a)) ≡ false
none_bare q (denied a) = none_bare q a
none_bare q (joined j a b) = or_from _ _ (none_bare q a) (none_bare (latest q a) b)
none_bare q _ = refl

none_bare_of : (e : Expression) → some_primitive is_unfilled (fill_expression e) ≡ false
none_bare_of empty = refl
none_bare_of (truth a) = none_bare only_host a

-- where there is no first fault there is none
no_fault : (m r p : Bool) → first_fault m r p ≡ None → (m ≡ false) × (r ≡ false) × (p ≡ false)
no_fault false false false h = (refl, refl, refl)
no_fault _ _ _ h = cc

pub filled_resolved : (e : Expression) → fill_fault e ≡ None → IsResolved (fill_expression e)
filled_resolved e h =
    let (m, r, p) = no_fault (some_primitive is_misfit (expr_inherited e)) (some_primitive is_out_of_range (expr_inherited e))
    (some_primitive has_bits_past_mask (expr_inherited e)) h in
    record {
      is_filled = none_bare_of e;
      fits = filled_keeps is_misfit (λ q v h. undirected (is_misfit_fit (fit_of (type_or_host q) v q.protocol)) (is_proto (type_or_host q)) q.direction h) e m;
      in_range = filled_keeps is_out_of_range (λ q v h. h) e r;
      in_mask = filled_keeps has_bits_past_mask (λ q v h. h) e p;
    }

-- the fault that the loops find
pub found_fault : (items mid : List Node) (e : Expression) → IsTree items → tree_of items ≡ e → mid ≡ inherited_nodes only_host items
    → nodes_fault mid ≡ fill_fault e
found_fault items mid e whole is inherits =
    ap nodes_fault (inherited_whole items mid whole inherits) ∙ fault_is (expr_inherited (tree_of items)) ∙ ap fill_fault is
