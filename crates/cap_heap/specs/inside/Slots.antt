-- A struct whose fields change through a reference.
use Rattle.std.specs.Prelude.{ℕ, List}
use mir.Val.{Val}
use base.Fraction.{full_share}
use base.Fml.{Lft, Fml, ffalse, fsep, fex}
use denote.RattleType.{RattleType}
use denote.Memory.{cell_at}
use denote.RawPtr.{Ptr, block_ptr, null_ptr}
use denote.Sharing.{said}
use denote.Hidden.{guarded}

-- at a place in memory there are fields for which Holds
abbrev pub fields_at : (Fields : RattleType) → (Fields.Denot → Fml) → ℕ → ℕ → Fml
fields_at Fields Holds block offset = fex (List Val) (λ values.
    fsep (cell_at full_share Fields.mir values block offset)
    (fex Fields.Denot (λ it. fsep (Fields.own_val it values) (Holds it))))

-- whoever has a reference gets the fields with the thread's token, and gives them back so that
-- Holds still
abbrev pub changes_by_reference : (Fields : RattleType) → (Fields.Denot → Fml) → Ptr → Lft → Fml
changes_by_reference Fields Holds (block_ptr block offset) =
    guarded (block, offset) (fields_at Fields Holds block offset)
changes_by_reference Fields Holds null_ptr = said ffalse
