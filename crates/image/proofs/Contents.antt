-- The words that bytes hold, by their places.
use Rattle.std.proofs.Common.{◌≡◌, ℕ, ◌<◌, ◌≤◌, List, length, get_or, slice_index, Some, None, sym, ap, ◌∙◌, arith}
use Rattle.std.specs.List.{slice_get}
use Rattle.std.proofs.lemmas.List.FromFn.{length-map-range_with_len, get_or-map-range_with_len}
use Rattle.std.proofs.lemmas.Option.{slice_get-get_or, slice_get_past}
use Rattle.image.specs.declared.layout.Header.{Header}
use Rattle.image.specs.Words.{word_at}
use Rattle.image.specs.Blocks.{place_from}
use Rattle.image.specs.Format.{length_in, word_from, words_from, program_in}
use Rattle.image.specs.Headers.{header_in}

pub length_words : (bytes : List ℕ) (b n : ℕ) → length (words_from bytes b n) ≡ n
length_words bytes b n = length-map-range_with_len (word_from bytes b) 0 n

pub word_here : (bytes : List ℕ) (b n p : ℕ) → p < n → get_or (words_from bytes b n) p 0 ≡ word_from bytes b p
word_here bytes b n p h = get_or-map-range_with_len (word_from bytes b) 0 n p p 0 h (omega arith)

pub nth_word : (bytes : List ℕ) (b n p : ℕ) → p < n → slice_get (words_from bytes b n) p ≡ Some (word_from bytes b p)
nth_word bytes b n p h =
    let l = length_words bytes b n in
    slice_get-get_or (words_from bytes b n) p 0 (omega arith) ∙ ap Some (word_here bytes b n p h)

pub nth_none : (bytes : List ℕ) (b n p : ℕ) → n ≤ p → slice_get (words_from bytes b n) p ≡ None
nth_none bytes b n p h = let l = length_words bytes b n in slice_get_past (words_from bytes b n) p (omega arith)

-- the word that is read at a place of the program
pub program_word_read : (s : List ℕ) (h : Header) (p q w : ℕ) → h ≡ header_in s → p < h.program_len → q ≡ place_from 1 p → w ≡ word_at s q
    → slice_index (program_in s) p ≡ w
program_word_read s h p q w e l f g =
    let n = ap (λ (x : Header). x.program_len) e in
    word_here s 1 (length_in s) p (omega arith) ∙ sym (rw f at g)

-- the program is as long as the header says
pub length_program : (s : List ℕ) (h : Header) → h ≡ header_in s → length (program_in s) ≡ h.program_len
length_program s h e = length_words s 1 (length_in s) ∙ sym (ap (λ (x : Header). x.program_len) e)
