-- A product modulo h * h, by halves below h. Assumes nothing.
use Rattle.std.proofs.Common.{◌≡◌, ℕ, ◌+◌, ◌*◌, ◌/◌, ◌%◌, ◌^◌, ◌<◌, ◌≤◌, sym, ap, ◌∙◌, ap₂, mul-le-mul, div-add-mod', arith}
use native.Mathlib.Nat.{add-mul-mod_self_right, mod-mod_of_dvd, dvd-mul_right}

-- The product of two numbers below 2 ^ 32 fits 64 bits.
pub fits_64 : (x y : ℕ) → x < 2 ^ 32 → y < 2 ^ 32 → x * y < 2 ^ 64
fits_64 x y p q =
    let h : x * y ≤ 0xffff_ffff * 0xffff_ffff = mul-le-mul {n₁ = x} {m₁ = y} {n₂ = 0xffff_ffff} {m₂ = 0xffff_ffff} (omega arith) (omega arith) in
    omega arith

-- The parts of a product; of the crossed ones only the part below h counts.
parts : (h ah al bh bl q r : ℕ) → ah * bl + al * bh ≡ q * h + r → (ah * h + al) * (bh * h + bl) ≡ al * bl + r * h + (q + ah * bh) * (h * h)
parts h ah al bh bl q r e = let m : (ah * bl + al * bh) * h ≡ (q * h + r) * h = ap (λ (x : ℕ). x * h) e in omega arith

pub by_halves : (h a b : ℕ) → (a % h * (b % h) + (a / h * (b % h) + a % h * (b / h)) % (h * h) % h * h) % (h * h) ≡ (a * b) % (h * h)
by_halves h a b =
    let m = a / h * (b % h) + a % h * (b / h) in
    let e : a * b ≡ a % h * (b % h) + m % h * h + (m / h + a / h * (b / h)) * (h * h) =
    ap₂ (λ (x y : ℕ). x * y) (sym (div-add-mod' a h)) (sym (div-add-mod' b h)) ∙ parts h (a / h) (a % h) (b / h) (b % h) (m / h) (m % h) (sym (div-add-mod' m h)) in
    ap (λ (x : ℕ). (a % h * (b % h) + x * h) % (h * h)) (mod-mod_of_dvd h m (dvd-mul_right h h))
    ∙ sym (add-mul-mod_self_right (a % h * (b % h) + m % h * h) (m / h + a / h * (b / h)) (h * h))
    ∙ ap (λ (x : ℕ). x % (h * h)) (sym e)
