-- A block memory over an image, after any calls.
use Rattle.std.proofs.Common.{◌≡◌, ℕ, ◌^◌, ◌<◌, length, set, sym, ap, ◌∙◌, ap₂}
use Rattle.image.specs.Format.{Contents, data_block, size_in, words_from}
use Rattle.image.proofs.Contents.{length_words}
use Rattle.image.proofs.Openings.{says}
use Rattle.blocks.specs.declared.block_memory.BlockMemory.{BlockMemory}
use Rattle.blocks.specs.Layout.{block_of, place_of, rewritten, SameImage, with_words}
use Rattle.blocks.specs.Memories.{words_of, Kept, frame_of, Stands}
use Rattle.blocks.proofs.Ranges.{contents_size}
use Rattle.blocks.proofs.Changes.{Changed, write_changed, words_changed, others_changed}
use Rattle.blocks.proofs.Images.{same_image, still_opens, data_block_still, size_still}

-- it has as many words as its size says
pub words_counted : (m : BlockMemory) → length (words_of m) ≡ m.size
words_counted m = length_words m.bytes.now m.first m.size

-- the memory's words are the image's
pub stands_words : (m : BlockMemory) (c : Contents) → Stands m c → words_of m ≡ c.words
stands_words m c st =
    let s = m.bytes.now in
    ap₂ (words_from s) st.first st.size ∙ sym (ap (λ (d : Contents). d.words) (says s st.opens).1)

-- two memories with the same frame
module _ (m k : BlockMemory) (e : frame_of k ≡ frame_of m) where
  same_first : k.first ≡ m.first
  same_first = ap (λ (x : Kept). x.first) e

  same_size : k.size ≡ m.size
  same_size = ap (λ (x : Kept). x.size) e

  -- hold the same image, each with its own words
  pub frame_image : SameImage m.first m.bytes.now k.bytes.now (words_of k)
  frame_image =
      let rest = ap (λ (x : Kept). x.rest) e in
      same_image m.first m.size m.bytes.now k.bytes.now (words_of k) (cc (same_first, same_size)) (cc (same_first, same_size)) (rw (← same_first, ← same_size) k.checked)

  -- and stand over it
  pub stands_still : (c : Contents) → Stands m c → Stands k (with_words c (words_of k))
  stands_still c st =
      let s = m.bytes.now in
      let t = k.bytes.now in
      let w = says s st.opens in
      let l : length (words_of k) ≡ size_in s = words_counted k ∙ same_size ∙ st.size in
      let same : SameImage (data_block s) s t (words_of k) = rw (← st.first) frame_image in
      record {
        opens = still_opens s t (words_of k) c st.opens (l ∙ sym (contents_size s c w.1)) same;
        first = same_first ∙ st.first ∙ sym (data_block_still s t (words_of k) w.0 l same);
        size = same_size ∙ st.size ∙ sym (size_still s t (words_of k) w.0 l same);
      }

-- and so it does once a word is written
pub stands_written : (m k : BlockMemory) (a w : ℕ) → frame_of k ≡ frame_of m → words_of k ≡ set (words_of m) a w
    → (c : Contents) → Stands m c → Stands k (with_words c (set c.words a w))
stands_written m k a w e left c st = rw (← stands_words m c st, ← left) (stands_still m k e c st)

-- a memory, and the same once data word p was changed
module _ (m k : BlockMemory) (p w : ℕ) (h : p < m.size) (small : w < 2 ^ 32) (first : k.first ≡ m.first) (size : k.size ≡ m.size)
    (bytes : k.bytes.now ≡ rewritten m.bytes.now (block_of m.first p) (place_of p) w) where
  change : Changed m.bytes.now k.bytes.now (block_of m.first p) (place_of p) w
  change = write_changed m.bytes.now k.bytes.now m.first m.size p w h m.within small bytes

  pub change_words : words_of k ≡ set (words_of m) p w
  change_words = rw (first, size) (words_changed m.bytes.now k.bytes.now m.first m.size p w h change)

  pub change_frame : k.bytes.ghost_name ≡ m.bytes.ghost_name → frame_of k ≡ frame_of m
  change_frame loan = let rest = others_changed m.bytes.now k.bytes.now m.first m.size p w h change in cc
