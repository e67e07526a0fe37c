-- How the functions of 5.9.11 meet their tables.
use mathlib.Core.Path.{◌≡◌, refl}
use mathlib.Core.Bool.{Bool, true}
use Prim.Native.Nat.{ℕ}
use lib.IntN.{ℤ}
use mir.Syntax.{w32}
use mir.Val.{SFits, to_z, of_z}
use Rattle.bits.specs.Walk.{mark, ◌⊕◌}
use Rattle.bits.specs.Codec.{flag, absent, choose, merged, ◌▷◌}
use Rattle.bits.specs.Codes.{su}
use Rattle.writer.specs.Walked.{Walked}
use Rattle.writer.specs.declared.BitWriter.{BitWriter}
use Rattle.writer.proofs.Walking.{Answer as Step}
use Rattle.loop_filter.specs.LoopFilter.{chroma_levels, delta}
use Rattle.parts.proofs.Signs.{word}
use Rattle.parts.proofs.Flags.{set}

pub delta-set : (old : ℤ) (e i : ℕ) (z : ℤ) {c d : BitWriter} {s : Step} → SFits w32 z → Walked (mark true ⊕ (su 7 e i).enc (to_z w32 (of_z w32 z))) c d s → Walked ((delta old e i).enc z) c d s
unfolding delta merged ◌▷◌ flag choose absent
delta-set old e i z f g = set refl (rw (word w32 z f.sfits) at g)

pub levels_by : (t b : Bool) (v : ℕ × ℕ) {c d : BitWriter} {s : Step} → t ≡ b → Walked ((chroma_levels t).enc v) c d s → Walked ((chroma_levels b).enc v) c d s
levels_by t b v h g = rw h at g
