-- Bytes that are put behind a text, one after the other.
use Rattle.std.proofs.Common.{◌≡◌, sym, ◌∙◌, ap, ℕ, ◌+◌, ◌≤◌, List, ◌++◌, length, take, drop, append_assoc, arith, length-append}
use Rattle.std.proofs.Math.Seq.{paste, take-paste, drop-paste, drop-drop, take-length}
use Rattle.words.specs.declared.put.Text.{Text}
use Rattle.words.specs.Puts.{Puts}
use Rattle.words.specs.Text.{Put}

paste_then : (d : List ℕ) (at : ℕ) (s t : List ℕ) → at + length (s ++ t) ≤ length d
    → paste (paste d at s (length s)) (at + length s) t (length t) ≡ paste d at (s ++ t) (length (s ++ t))
paste_then d at s t h =
    let l : length (s ++ t) ≡ length s + length t = length-append s t in
    let front = take-paste d at s (length s) (omega arith) (omega arith) in
    let back : drop (at + length s + length t) (paste d at s (length s)) ≡ drop (at + length (s ++ t)) d =
    rw (← drop-drop (length t) (at + length s) (paste d at s (length s)), drop-paste d at s (length s) (omega arith) (omega arith), drop-drop (length t) (at + length s) d, l) (ap (λ k. drop k d) (omega arith)) in
    rw (front, back, take-length s, take-length t, take-length (s ++ t)) (simp append_assoc)

put_then : (out mid after : List ℕ) (at q r : ℕ) (s t : List ℕ) → Put out at s q mid → Put mid q t r after → length mid ≡ length out → Put out at (s ++ t) r after
put_then out mid after at q r s t p o l h =
    let e : length (s ++ t) ≡ length s + length t = length-append s t in
    let a = p (omega arith) in
    let b = o (omega arith) in
    (omega arith, b.1 ∙ rw (a.0, a.1) (paste_then out at s t h))

pub puts_then : {a b c : Text} {s t : List ℕ} → Puts a s b → Puts b t c → Puts a (s ++ t) c
puts_then p q = record { same_slice = q.same_slice ∙ p.same_slice; same_length = grind arith; put = put_then _ _ _ _ _ _ _ _ p.put q.put p.same_length }

-- what was put at the start of a slice
pub written : {a b : Text} {s : List ℕ} → Puts a s b → a.at ≡ 0 → length s ≤ length a.out.now → take b.at b.out.now ≡ s
written {a} {b} {s} p z h =
    let q = p.put (omega arith) in
    rw (q.0, q.1, take-paste a.out.now a.at s (length s) (omega arith) (omega arith), z, take-length s)

-- by its length
pub front : {a b : Text} {s : List ℕ} → Puts a s b → a.at ≡ 0 → length s ≤ length a.out.now → take (length (take b.at b.out.now)) b.out.now ≡ s
front {a} {b} {s} p z h =
    let w = written p z h in
    let q = p.put (omega arith) in
    let l : b.at ≡ length s = omega (arith, q.0, z) in
    rw w (rw l at w)

-- in the slice, where whoever lent it finds it
pub lent : {a b : Text} {s : List ℕ} {n : ℕ} {e : _} → Puts a s b → a.at ≡ 0 → length s ≤ length a.out.now → a.out.ghost_name ≡ e
    → (g : (x : List ℕ) × ((length x ≡ n) × (e ≡ b.out.ghost_name → x ≡ b.out.now))) → take (length (take b.at b.out.now)) g.0 ≡ s
lent p z h i g = rw (g.1.1 (sym i ∙ sym p.same_slice)) (front p z h)
