-- A block memory by its bytes.
use Rattle.std.specs.Prelude.{◌≡◌, ℕ, ◌≤◌, List, length, Ok}
use Rattle.std.proofs.Common.{sym, subst}
use Rattle.std.proofs.lemmas.List.FromFn.{length-map-range_with_len}
use Rattle.image.specs.Format.{Contents, data_block, size_in, word_from, words_from}
use Rattle.image.specs.Opening.{Opening}
use Rattle.blocks.specs.declared.block_memory.BlockMemory.{BlockMemory}
use Rattle.blocks.specs.Layout.{others}

-- the words that it means: the data words in its bytes
abbrev pub words_of : BlockMemory → List ℕ
words_of m = words_from m.bytes.now m.first m.size

-- these are few enough for a data memory
pub words_few : (m : BlockMemory) → length (words_of m) ≤ 4096
words_few m = subst (λ (n : ℕ). n ≤ 4096) (sym (length-map-range_with_len (word_from m.bytes.now m.first) 0 m.size)) m.few

-- what no call changes: the loan of the bytes, where the data words stand in them, and the other bytes
pub record Kept : Type 0 where
  pub loan : ℕ
  pub first : ℕ
  pub size : ℕ
  pub rest : List ℕ

abbrev pub frame_of : BlockMemory → Kept
frame_of m = record { loan = m.bytes.ghost_name; first = m.first; size = m.size; rest = others m.first m.size m.bytes.now }

-- a memory over an image that holds these contents
pub record Stands (m : BlockMemory) (c : Contents) : Type 0 where
  pub opens : Opening m.bytes.now (Ok c)
  pub first : m.first ≡ data_block m.bytes.now
  pub size : m.size ≡ size_in m.bytes.now
