-- A context's numbers, one by one, from those of the sequence header's record.
use mathlib.Core.Path.{◌≡◌}
use mathlib.Core.Bool.{Bool, not}
use mathlib.Core.List.{List, [], ◌∷◌}
use Prim.Native.Nat.{ℕ, ◌+◌}
use lib.Dec.{eqb}
use lib.IntN.{ℤ, pos}
use lib.ListN.{get_or}
use Rattle.fill.specs.Fills.{at, of, nowhere, ◌▸◌}
use Rattle.sequence.specs.Color.{plane_count}
use Rattle.sequence_reader.specs.Layouts.{record_of}
use Rattle.sequence_reader.specs.Places as place
use Rattle.contexts.specs.Contexts.{quantization_context, loop_filter_context, cdef_context, lr_context}
use Rattle.contexts.specs.Numbers.{bit, quantization_numbers, loop_filter_numbers, cdef_numbers, lr_numbers}

module _ (ns : List ℕ) where
  abbrev planes_at : ℤ
  planes_at = pos (plane_count (eqb (get_or ns place.num_planes 0) 1))

  abbrev flag_at : ℕ → ℤ
  flag_at i = bit (not (eqb (get_or ns i 0) 0))

  pub quantization_is : {a b : ℤ} → a ≡ planes_at → b ≡ flag_at (place.planes + 4) → a ∷ b ∷ [] ≡ quantization_numbers (quantization_context (record_of ns))
  unfolding record_of at of nowhere ◌▸◌
  quantization_is a b = rw (a, b)

  module _ (lossless intrabc : Bool) where
    pub loop_filter_is : {a b c : ℤ} → a ≡ bit lossless → b ≡ bit intrabc → c ≡ planes_at → a ∷ b ∷ c ∷ [] ≡ loop_filter_numbers (loop_filter_context (record_of ns) lossless intrabc)
    unfolding record_of at of nowhere ◌▸◌
    loop_filter_is a b c = rw (a, b, c)

    pub cdef_is : {a b c d : ℤ} → a ≡ bit lossless → b ≡ bit intrabc → c ≡ flag_at (place.filter_tools + 1) → d ≡ planes_at → a ∷ b ∷ c ∷ d ∷ [] ≡ cdef_numbers (cdef_context (record_of ns) lossless intrabc)
    unfolding record_of at of nowhere ◌▸◌
    cdef_is a b c d = rw (a, b, c, d)

    pub lr_is : {a b c d e f g : ℤ} → a ≡ bit lossless → b ≡ bit intrabc → c ≡ flag_at (place.filter_tools + 2) → d ≡ planes_at → e ≡ flag_at place.tools → f ≡ flag_at place.sampling → g ≡ flag_at (place.sampling + 1)
        → a ∷ b ∷ c ∷ d ∷ e ∷ f ∷ g ∷ [] ≡ lr_numbers (lr_context (record_of ns) lossless intrabc)
    unfolding record_of at of nowhere ◌▸◌
    lr_is a b c d e f g = rw (a, b, c, d, e, f, g)
