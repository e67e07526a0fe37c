-- The refusals of a part's reader.
use Rattle.std.specs.Prelude.{◌≡◌}
use Rattle.bits.specs.Bits.{Bits}
use Rattle.bits.specs.Codec.{Codec, stop}
use Rattle.bits.specs.declared.answer.Refusal.{Refusal}
use Rattle.bits.specs.declared.answer.Refusal.TheVariants.{Ends}

-- a table that refuses no bits but those that end too soon
pub data OnlyEnds {A : Type 0} (c : Codec A) : Type 0 where
  only_ends : ((bs : Bits) (r : Refusal) → c.dec bs ≡ stop r → r ≡ Ends) → OnlyEnds c
