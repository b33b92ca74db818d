-- The data words of an image that opens.
use Rattle.std.proofs.Common.{◌≡◌, ℕ, ◌+◌, List, length, refl, ap, ◌∙◌, arith}
use Rattle.image.specs.Blocks.{pages}
use Rattle.image.specs.Format.{Contents, length_in, size_in, data_block, data_block_of, contents_in}
use Rattle.image.specs.Whole.{IsWhole}
use Rattle.image.proofs.Contents.{length_words}
use Rattle.image.proofs.Openings.{says}
use Rattle.blocks.specs.Ranges.{Range}

pub whole_range : (bytes : List ℕ) → IsWhole bytes → Range bytes (data_block bytes) (size_in bytes)
whole_range bytes w =
    let b = w.counts.blocks in
    record {
      few = w.counts.small;
      within = omega arith;
      checked = λ k h. (w.sound (data_block bytes + k) (omega arith)).checked;
      opened = λ c o. (refl, refl);
      refused = λ d o. absurd (says bytes o w);
    }

pub no_range : (bytes : List ℕ) → (IsWhole bytes → ⊥) → Range bytes 0 0
no_range bytes h =
    record {
      few = omega arith;
      within = omega arith;
      checked = λ k l. absurd (omega arith);
      opened = λ c o. absurd (h (says bytes o).0);
      refused = λ d o. refl;
    }

-- the size and the first block of the data words, by the contents
pub contents_size : (bytes : List ℕ) (c : Contents) → c ≡ contents_in bytes → length c.words ≡ size_in bytes
contents_size bytes c e = ap (λ (d : Contents). length d.words) e ∙ length_words bytes (data_block bytes) (size_in bytes)

pub contents_block : (bytes : List ℕ) (c : Contents) → c ≡ contents_in bytes → data_block_of c ≡ data_block bytes
contents_block bytes c e = ap data_block_of e ∙ ap (λ (n : ℕ). 1 + pages n) (length_words bytes 1 (length_in bytes))
