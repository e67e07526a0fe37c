-- How the loop over hex digits goes on: two digits more are one byte more.
use Rattle.std.proofs.Common.{◌≡◌, refl, ap, List, [], ◌∷◌, ◌++◌, ℕ, suc, ◌+◌, ◌*◌, ◌<◌, length, drop, take, set, get_or, Option, Some, None, append_assoc, add-one, arith}
use Rattle.std.specs.Option.{option_and_then, option_map}
use Rattle.std.proofs.Math.Seq.{drop-cons, take-suc-set}
use Rattle.lines.specs.Hex.{byte, bytes}

one_more : (x : Option ℕ) (y : Option (List ℕ)) (n : ℕ) → ((rest : List ℕ) → y ≡ Some rest → n ≡ 2 * length rest) → (read : List ℕ)
    → option_and_then (λ first. option_map (λ rest. first ∷ rest) y) x ≡ Some read → n + 2 ≡ 2 * length read
one_more None y n h read e = cc
one_more (Some v) None n h read e = cc
one_more (Some v) (Some rest) n h read e =
    let f : v ∷ rest ≡ read = cc in
    omega (arith, h rest refl, ap length f)

pub bytes-length : (s read : List ℕ) → bytes s ≡ Some read → length s ≡ 2 * length read
unfolding bytes
bytes-length [] read h =
    let e : [] ≡ read = cc in
    rw (← e)
bytes-length (a ∷ []) read h = cc
bytes-length (a ∷ b ∷ s) read h = omega (arith, one_more (byte a b) (bytes s) (length s) (λ rest e. bytes-length s rest e) read h)

-- the digits at 2 i and 2 i + 1
pub next_byte : (s : List ℕ) (i : ℕ) → 2 * i + 1 < length s
    → bytes (drop (2 * i) s) ≡ option_and_then (λ first. option_map (λ rest. first ∷ rest) (bytes (drop (2 * (i + 1)) s))) (byte (get_or s (2 * i) 0) (get_or s (2 * i + 1) 0))
unfolding bytes
next_byte s i h =
    let e : 2 * (i + 1) ≡ suc (suc (2 * i)) = omega arith in
    rw (e, add-one, drop-cons s (2 * i) 0 (omega arith), drop-cons s (suc (2 * i)) 0 (omega arith))

pub stored : (out : List ℕ) (i v : ℕ) (rest : Option (List ℕ)) → i < length out
    → option_map (λ r. take i out ++ r) (option_map (λ r. v ∷ r) rest) ≡ option_map (λ r. take (i + 1) (set out i v) ++ r) rest
stored out i v None h = refl
stored out i v (Some rest) h = rw (add-one, take-suc-set out i v h, append_assoc)
