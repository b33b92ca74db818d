-- Texts put together and clipped.
use Rattle.std.proofs.Common.{◌≡◌, ℕ, ◌+◌, ◌-◌, ◌^◌, ◌<◌, ◌≤◌, List, ◌++◌, length, take, min, decimal, sym, subst, ap, ◌∙◌, arith, length-append}
use Rattle.std.proofs.lemmas.Fmt.{length-decimal-le}
use Rattle.std.proofs.lemmas.List.{take_all, take_min}
use Rattle.std.proofs.Math.Seq.{take-append-add, take-append_seam}
use Rattle.listing.specs.Texts.{clipped}

-- a text and as much of a part as there is room for
pub clipped_part : (xs ys : List ℕ) (n : ℕ) → length xs ≤ 512 → n ≡ min (512 - length xs) (length ys) → xs ++ take n ys ≡ clipped (xs ++ ys)
unfolding clipped
clipped_part xs ys n room e =
    let whole : length xs + (512 - length xs) ≡ 512 = omega arith in
    rw e (ap (λ (zs : List ℕ). xs ++ zs) (take_min (512 - length xs) ys))
    ∙ sym (ap (λ (k : ℕ). take k (xs ++ ys)) (sym whole) ∙ take-append-add xs ys (512 - length xs))

-- a text and a part that there is room for
pub clipped_whole : (xs ys : List ℕ) → length (xs ++ ys) ≤ 512 → clipped (xs ++ ys) ≡ xs ++ ys
unfolding clipped
clipped_whole xs ys room = take_all 512 (xs ++ ys) room

-- a word of 64 bits takes at most 20 digits
pub length-decimal_word : (n : ℕ) → n < 2 ^ 64 → length (decimal n) ≤ 20
length-decimal_word n h = length-decimal-le 20 n (omega arith) (omega arith) h

-- a text that is full stays as it is
pub clipped_full : (xs ys : List ℕ) → length xs ≡ 512 → clipped (xs ++ ys) ≡ xs
unfolding clipped
clipped_full xs ys full = subst (λ (n : ℕ). take n (xs ++ ys) ≡ xs) full (take-append_seam xs ys)

-- what shows that one more byte is there where there is room, and that nothing is where there is none
pub ruleset one_more = (length-append, clipped_whole, clipped_full)

-- what shows that a line is not clipped
pub ruleset lines = (length-append, clipped_whole, length-decimal_word)
