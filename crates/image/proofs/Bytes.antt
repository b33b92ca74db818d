-- What a word's bytes are after it is written, and what is read back.
use Rattle.std.proofs.Common.{◌≡◌, ℕ, zero, suc, ◌+◌, ◌-◌, ◌*◌, ◌/◌, ◌%◌, ◌^◌, ◌<◌, ◌≤◌, ◌≢◌, List, [], ◌∷◌, ◌++◌, length, get_or, take, drop, set, sym, refl, ap, ◌∙◌, add-zero, arith, length-set, get_or-set_other, get_or-set_same}
use Rattle.std.proofs.Math.Seq.{sets, sets-eq}
use Rattle.std.proofs.lemmas.Slice.{put_mid-paste}
use borrow.Rule.Slice.PartMut.{put_mid}
use Rattle.image.specs.Words.{byte_of, word_at, put_word}

-- a byte of the word that was written
pub put_same : (s : List ℕ) (i w r : ℕ) → 4 * i + 4 ≤ length s → r < 4 → get_or (put_word s i w) (4 * i + r) 0 ≡ byte_of w r
put_same s i w zero l h =
    let a : 4 * i ≢ 4 * i + 1 = omega arith in
    let b : 4 * i ≢ 4 * i + 2 = omega arith in
    let c : 4 * i ≢ 4 * i + 3 = omega arith in
    let m : 4 * i < length s = omega arith in
    rw (add-zero (4 * i), get_or-set_other, get_or-set_other, get_or-set_other, get_or-set_same)
put_same s i w (suc zero) l h =
    let b : 4 * i + 1 ≢ 4 * i + 2 = omega arith in
    let c : 4 * i + 1 ≢ 4 * i + 3 = omega arith in
    let m : 4 * i + 1 < length (set s (4 * i) (byte_of w 0)) = simp length-set (omega arith) in
    rw (get_or-set_other, get_or-set_other, get_or-set_same)
put_same s i w (suc (suc zero)) l h =
    let c : 4 * i + 2 ≢ 4 * i + 3 = omega arith in
    let m : 4 * i + 2 < length (set (set s (4 * i) (byte_of w 0)) (4 * i + 1) (byte_of w 1)) = simp length-set (omega arith) in
    rw (get_or-set_other, get_or-set_same)
put_same s i w (suc (suc (suc zero))) l h =
    let m : 4 * i + 3 < length (set (set (set s (4 * i) (byte_of w 0)) (4 * i + 1) (byte_of w 1)) (4 * i + 2) (byte_of w 2)) = simp length-set (omega arith) in
    rw get_or-set_same
put_same s i w (suc (suc (suc (suc r)))) l h = absurd (omega arith)

-- a byte of another word
pub put_other : (s : List ℕ) (i w k : ℕ) → (k / 4 ≡ i → ⊥) → get_or (put_word s i w) k 0 ≡ get_or s k 0
put_other s i w k ne =
    let a : k ≢ 4 * i = omega arith in
    let b : k ≢ 4 * i + 1 = omega arith in
    let c : k ≢ 4 * i + 2 = omega arith in
    let d : k ≢ 4 * i + 3 = omega arith in
    rw (get_or-set_other, get_or-set_other, get_or-set_other, get_or-set_other)

digits : (w x y z : ℕ) → x ≡ w / 256 → y ≡ x / 256 → z ≡ y / 256 → w < 2 ^ 32 → z % 256 * 2 ^ 24 + y % 256 * 2 ^ 16 + x % 256 * 2 ^ 8 + w % 256 ≡ w
digits w x y z p q r h = omega arith

four_bytes : (w : ℕ) → w < 2 ^ 32 → byte_of w 0 * 2 ^ 24 + byte_of w 1 * 2 ^ 16 + byte_of w 2 * 2 ^ 8 + byte_of w 3 ≡ w
four_bytes w h =
    let x : w / 65536 ≡ w / 256 / 256 = omega arith in
    let y : w / 16777216 ≡ w / 65536 / 256 = omega arith in
    let z : w / 1 ≡ w = omega arith in
    rw z (digits w (w / 256) (w / 65536) (w / 16777216) refl x y h)

-- a word is read from its four bytes
pub read_bytes : (s : List ℕ) (i w : ℕ) → w < 2 ^ 32 → ((r : ℕ) → r < 4 → get_or s (4 * i + r) 0 ≡ byte_of w r) → word_at s i ≡ w
read_bytes s i w h b =
    let p : get_or s (4 * i) 0 ≡ byte_of w 0 = ap (λ (k : ℕ). get_or s k 0) (omega arith) ∙ b 0 (omega arith) in
    let q = b 1 (omega arith) in
    let r = b 2 (omega arith) in
    let t = b 3 (omega arith) in
    rw (p, q, r, t) (four_bytes w h)

-- the words after one is written
pub word_put_same : (s : List ℕ) (i w : ℕ) → 4 * i + 4 ≤ length s → w < 2 ^ 32 → word_at (put_word s i w) i ≡ w
word_put_same s i w l h = read_bytes (put_word s i w) i w h (λ r m. put_same s i w r l m)

pub word_put_other : (s : List ℕ) (i w k : ℕ) → (k ≡ i → ⊥) → word_at (put_word s i w) k ≡ word_at s k
word_put_other s i w k ne =
    let a = put_other s i w (4 * k) (λ e. ne (let q : k ≡ i = omega arith in q)) in
    let b = put_other s i w (4 * k + 1) (λ e. ne (let q : k ≡ i = omega arith in q)) in
    let c = put_other s i w (4 * k + 2) (λ e. ne (let q : k ≡ i = omega arith in q)) in
    let d = put_other s i w (4 * k + 3) (λ e. ne (let q : k ≡ i = omega arith in q)) in
    rw (a, b, c, d)

pub length_put : (s : List ℕ) (i w : ℕ) → length (put_word s i w) ≡ length s
length_put s i w = simp length-set

-- a word's bytes, as the code gives them
abbrev pub bytes_of : ℕ → List ℕ
bytes_of w = byte_of w 0 ∷ byte_of w 1 ∷ byte_of w 2 ∷ byte_of w 3 ∷ []

pub be_bytes : (w : ℕ) → w / 16777216 % 256 ∷ w / 65536 % 256 ∷ w / 256 % 256 ∷ w % 256 ∷ [] ≡ bytes_of w
be_bytes w = let last : w / 1 ≡ w = omega arith in rw last

-- and laid over those of another
pub paste_word : (s : List ℕ) (i w : ℕ) → 4 * i + 4 ≤ length s → take (4 * i) s ++ bytes_of w ++ drop (4 * i + 4) s ≡ put_word s i w
paste_word s i w h = sym (sets-eq (bytes_of w) s (4 * i) h) ∙ put_sets
  where
    put_sets : sets s (4 * i) (bytes_of w) ≡ put_word s i w
    put_sets =
        let a : 4 * i + 1 ≡ suc (4 * i) = omega arith in
        let b : 4 * i + 2 ≡ suc (suc (4 * i)) = omega arith in
        let c : 4 * i + 3 ≡ suc (suc (suc (4 * i))) = omega arith in
        rw (a, b, c)

-- a word's place after four bytes were copied there, whatever way the code has them, so long as they are the word's
pub copied_word : (s ys : List ℕ) (i w : ℕ) → ys ≡ w / 16777216 % 256 ∷ w / 65536 % 256 ∷ w / 256 % 256 ∷ w % 256 ∷ [] → 4 * i + 4 ≤ length s
    → put_mid (4 * i) (4 * i + 4 - 4 * i) s ys ≡ put_word s i w
copied_word s ys i w e h =
    put_mid-paste (4 * i) (4 * i + 4 - 4 * i) s ys (bytes_of w) 4 (e ∙ be_bytes w) (omega arith) refl ∙ paste_word s i w h
