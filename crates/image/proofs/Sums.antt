-- Sums of words.
use Rattle.std.proofs.Common.{◌≡◌, ℕ, zero, suc, ◌+◌, ◌*◌, ◌%◌, ◌^◌, List, [], ◌∷◌, ◌++◌, sym, refl, ap, ◌∙◌, mul_comm, arith}
use Rattle.std.specs.List.{fold, range_with_len}
use Rattle.std.proofs.Math.Nat.{add-mod}
use Rattle.std.proofs.lemmas.List.Sums.{fold-append}
use Rattle.image.specs.Blocks.{weighted}

range_more : (a n : ℕ) → range_with_len a (suc n) ≡ range_with_len a n ++ (a + n) ∷ []
range_more a zero = let e : a + 0 ≡ a = omega arith in rw e
range_more a (suc n) =
    let e : a + 1 + n ≡ a + suc n = omega arith in
    ap (λ (xs : List ℕ). a ∷ xs) (range_more (a + 1) n ∙ ap (λ (k : ℕ). range_with_len (a + 1) n ++ k ∷ []) e)

-- a sum of words that wraps at each step, and the sum of numbers that wraps once
abbrev step : (ℕ → ℕ) → ℕ → ℕ → ℕ
step words sum i = (sum + words i * (2 * i + 1) % 2 ^ 32) % 2 ^ 32

pub wrapped_sum : (words : ℕ → ℕ) (n : ℕ) → fold (λ (sum i : ℕ). (sum + words i * (2 * i + 1) % 2 ^ 32) % 2 ^ 32) 0 (range_with_len 0 n) ≡ weighted words n % 2 ^ 32
wrapped_sum words zero = refl
wrapped_sum words (suc n) =
    let e : 0 + n ≡ n = omega arith in
    ap (fold (step words) 0) (range_more 0 n ∙ ap (λ (k : ℕ). range_with_len 0 n ++ k ∷ []) e)
    ∙ fold-append (step words) 0 (range_with_len 0 n) (n ∷ [])
    ∙ ap (λ (s : ℕ). step words s n) (wrapped_sum words n)
    ∙ rw (mul_comm (words n) (2 * n + 1)) (sym (add-mod (weighted words n) ((2 * n + 1) * words n) (2 ^ 32)))
