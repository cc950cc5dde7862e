-- Comparisons of an accessor with a constant by `=`, which may be members of a list.
use Rattle.std.specs.Prelude.{ℕ, List, ◌∷◌, Option, Some, None}
use Rattle.flt_words.specs.declared.token.{Comparison.Comparison, Comparison.TheVariants.Equal, Protocol.Protocol}
use Rattle.flt_ast.specs.{Tree.NumberTree, Tree.literal, Tree.load, declared.node.Node.Node}
use Rattle.cap_octet.specs.declared.link.Link.{Link}
use Rattle.flt_gen.specs.{Elementary.compares_at, inside.Code.accessor_offset, Numbers.width_of}
use Rattle.flt_gen.specs.declared.{elementary.Elementary.Elementary, relation.Relation.Relation, group.Entry.Entry}

-- the accessor with this protocol, size and index is a number
abbrev pub relation : Protocol → ℕ → ℕ → ℕ → Entry
relation p s i k = Entry.Relation (record { protocol = p; size = s; index = i; number = k })

-- the relation that a comparison of trees is, if it is one
abbrev pub relation_of : Comparison → NumberTree → NumberTree → Option Entry
relation_of Equal (load p s (literal i)) (literal k) = Some (relation p s i k)
relation_of _ _ _ = None

-- the relation of which the first four nodes are, the last one of a tree first, if there is one
abbrev pub relation_in : List Node → Option Entry
relation_in (Node.Compare Equal ∷ Node.Literal k ∷ Node.Load p s ∷ Node.Literal i ∷ ns) =
    Some (relation p s i k)
relation_in _ = None

-- the test of a relation's field
abbrev pub relation_test : Link → Relation → Elementary
relation_test link r =
    compares_at (accessor_offset link r.protocol r.index) (width_of r.size) Equal r.number
