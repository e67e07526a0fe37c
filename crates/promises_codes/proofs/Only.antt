-- One answer, one place and one content of the bytes: for every walk, from every writer.
use mathlib.Core.Path.{◌≡◌, sym, ◌∙◌}
use Rattle.std.specs.Prelude.{Result}
use Rattle.bits.specs.Walk.{Walk}
use Rattle.bits.specs.declared.answer.Refusal.{Refusal}
use Rattle.writer.specs.Walked.{Walked, walked}
use Rattle.writer.specs.declared.BitWriter.{BitWriter}

pub only : {w : Walk} {a b c : BitWriter} {s t : Result Unit Refusal} → Walked w a b s → Walked w a c t → (s ≡ t) × (b.at ≡ c.at) × (b.out.now ≡ c.out.now)
only (walked e p q g) (walked f x y h) = (e ∙ sym f, p ∙ sym x, q ∙ sym y)
