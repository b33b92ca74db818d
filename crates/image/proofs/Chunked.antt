-- Bytes cut into blocks.
use Rattle.std.proofs.Common.{◌≡◌, ℕ, zero, suc, ◌+◌, ◌*◌, ◌^◌, ◌<◌, List, [], slice_index, slice_index_or, drop, sym, ap, add-zero, ◌∙◌, arith, lit<}
use Rattle.std.specs.Simd.{first_chunks}
use Rattle.std.proofs.Math.Nat.{mul-suc}
use Rattle.std.proofs.lemmas.List.{get_or-take, get_or-drop}
use Rattle.image.specs.Words.{word_at}
use Rattle.image.specs.Blocks.{check, block_word, RightMarks, Sound}
use Rattle.image.proofs.Format.{check_same}

-- byte i of chunk j
byte_of_chunk : (n k j i : ℕ) (xs : List ℕ) → j < k → i < n → slice_index_or (slice_index_or (first_chunks n k xs) j []) i 0 ≡ slice_index_or xs (n * j + i) 0
byte_of_chunk n zero j i xs h l = absurd (omega arith)
byte_of_chunk n (suc k) zero i xs h l = let e : n * 0 + i ≡ i = omega arith in rw e (get_or-take n xs i 0 l)
byte_of_chunk n (suc k) (suc j) i xs h l =
    let e : n + (n * j + i) ≡ n * suc j + i = omega (arith, mul-suc n j) in
    byte_of_chunk n k j i (drop n xs) (omega arith) l ∙ get_or-drop n xs (n * j + i) 0 ∙ ap (λ (m : ℕ). slice_index_or xs m 0) e

-- word i, read as four bytes
pub word_of_four : (bytes : List ℕ) (k i : ℕ) → i < k
    → slice_index (slice_index_or (first_chunks 4 k bytes) i []) 0 * 2 ^ 24 + slice_index (slice_index_or (first_chunks 4 k bytes) i []) 1 * 2 ^ 16 + slice_index (slice_index_or (first_chunks 4 k bytes) i []) 2 * 2 ^ 8 + slice_index (slice_index_or (first_chunks 4 k bytes) i []) 3
    ≡ word_at bytes i
word_of_four bytes k i h =
    let a : slice_index_or (slice_index_or (first_chunks 4 k bytes) i []) 0 0 ≡ slice_index_or bytes (4 * i) 0 = simp add-zero at (byte_of_chunk 4 k i 0 bytes h (lit< tt)) in
    rw (a, byte_of_chunk 4 k i 1 bytes h (lit< tt), byte_of_chunk 4 k i 2 bytes h (lit< tt), byte_of_chunk 4 k i 3 bytes h (lit< tt))

-- word i of the block at a position
pub word_of_chunk : (bytes : List ℕ) (k b i : ℕ) → b < k → i < 128 → word_at (slice_index_or (first_chunks 512 k bytes) b []) i ≡ block_word bytes b i
word_of_chunk bytes k b i h l =
    let a : slice_index_or (slice_index_or (first_chunks 512 k bytes) b []) (4 * i) 0 ≡ slice_index_or bytes (4 * (128 * b + i)) 0 = simp add-zero at (at 0 (lit< tt)) in
    rw (a, at 1 (lit< tt), at 2 (lit< tt), at 3 (lit< tt))
  where
    at : (r : ℕ) → r < 4 → slice_index_or (slice_index_or (first_chunks 512 k bytes) b []) (4 * i + r) 0 ≡ slice_index_or bytes (4 * (128 * b + i) + r) 0
    at r m = let e : 512 * b + (4 * i + r) ≡ 4 * (128 * b + i) + r = omega arith in byte_of_chunk 512 k b (4 * i + r) bytes h (omega arith) ∙ ap (λ (j : ℕ). slice_index_or bytes j 0) e

-- the marks of the same words
pub same_marks : (f g : ℕ → ℕ) (b : ℕ) → ((i : ℕ) → i < 128 → f i ≡ g i) → RightMarks f b → RightMarks g b
same_marks f g b h m =
    record {
      number = sym (h 0 (lit< tt)) ∙ m.number;
      checked = sym (h 127 (lit< tt)) ∙ m.checked ∙ check_same f g (λ i l. h i (omega arith));
    }

-- the block at a position is sound, or is not, as its chunk is
pub sound_chunk : (bytes : List ℕ) (k b : ℕ) → b < k → RightMarks (word_at (slice_index_or (first_chunks 512 k bytes) b [])) b → Sound bytes b
sound_chunk bytes k b h = same_marks _ _ b (λ i l. word_of_chunk bytes k b i h l)

pub chunk_sound : (bytes : List ℕ) (k b : ℕ) → b < k → Sound bytes b → RightMarks (word_at (slice_index_or (first_chunks 512 k bytes) b [])) b
chunk_sound bytes k b h = same_marks _ _ b (λ i l. sym (word_of_chunk bytes k b i h l))

-- and its check is that of its words
pub check_of_chunk : (bytes : List ℕ) (k b : ℕ) → b < k → check (word_at (slice_index_or (first_chunks 512 k bytes) b [])) ≡ check (block_word bytes b)
check_of_chunk bytes k b h = check_same _ _ (λ i l. word_of_chunk bytes k b i h (omega arith))
