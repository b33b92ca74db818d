-- A data word replaced through a block memory.
use Rattle.std.proofs.Common.{◌≡◌, ℕ, ◌/◌, false, List, [], set, Ok, Err, Result, ap, ◌∙◌, arith, MutBor}
use Rattle.std.proofs.lemmas.List.{ext_get_or}
use Rattle.std.proofs.lemmas.Bool.Decides.{nat_tests}
use Rattle.refusal.specs.Refusals.{Declined, told}
use Rattle.memory.specs.declared.fault.NoWord.{NoWord}
use Rattle.memory.specs.Refusals.{of_no_word}
use Rattle.memory.specs.Words.{reading, ReplacesWord}
use Rattle.image.specs.Format.{Contents}
use Rattle.image.specs.Opening.{Opening}
use Rattle.blocks.specs.declared.block_memory.BlockMemory.{BlockMemory}
use Rattle.blocks.specs.Layout.{is_open, SameImage}
use Rattle.blocks.specs.Ranges.{data_of}
use Rattle.blocks.specs.Memories.{words_of, Kept, frame_of, Stands}
use Rattle.blocks.specs.Patches.{Replaced}
use Rattle.blocks.proofs.Standing.{frame_image, stands_still}

-- with no data words no byte is open
none_open : (f i : ℕ) → is_open f 0 i ≡ false
none_open f i = grind (arith, nat_tests)

none_changed : (f : ℕ) (s t ws : List ℕ) → ws ≡ [] → SameImage f s t ws → t ≡ s
none_changed f s t ws e same = ext_get_or 0 t s same.long (λ k l. same.rest k (rw e (none_open f (k / 4))))

-- m is the memory that is made over the bytes, k the same once a word of it was replaced; the bytes go back to the lender as k leaves them
module _ (bytes : MutBor (List ℕ)) (after : List ℕ) (m k : BlockMemory) (a w : ℕ) (result : Result ℕ NoWord)
    (lent : m.bytes ≡ bytes) (back : k.bytes.ghost_name ≡ bytes.ghost_name → after ≡ k.bytes.now)
    (words : (x : Result Contents Declined) → Opening bytes.now x → words_of m ≡ data_of x)
    (stands : (c : Contents) → Opening bytes.now (Ok c) → Stands m c)
    (used : ReplacesWord words_of frame_of m k a w result) where
  returned : after ≡ k.bytes.now
  returned = back (cc (ap (λ (x : Kept). x.loan) used.held))

  kept_image : SameImage m.first bytes.now after (words_of k)
  kept_image = rw (← lent, returned) (frame_image m k used.held)

  image_words : (c : Contents) → Opening bytes.now (Ok c) → words_of k ≡ set c.words a w
  image_words c o = used.left ∙ ap (λ (ws : List ℕ). set ws a w) (words (Ok c) o)

  pub replaced : Replaced bytes.now after a w (told of_no_word result)
  replaced =
      record {
        told = λ x o. used.answer ∙ ap (λ (ws : List ℕ). reading ws a) (words x o);
        image = λ c o. rw (← image_words c o, ← lent, ← (stands c o).first, lent) kept_image;
        opens = λ c o. rw (← image_words c o, returned) (stands_still m k used.held c (stands c o)).opens;
        closed = λ d o. none_changed m.first bytes.now after (words_of k) (used.left ∙ ap (λ (ws : List ℕ). set ws a w) (words (Err d) o)) kept_image;
      }
