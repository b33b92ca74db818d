-- What a data memory answers and what its calls leave, by the words that it means: those at the addresses from 0 up to its size.
use Rattle.std.specs.Prelude.{◌≡◌, ℕ, ◌≤◌, if◌then◌else◌, List, [], length, Ok, Err, Result, nat_lt, slice_index, slice_set}
use Rattle.refusal.specs.Refusals.{Declined, refused, told}
use Rattle.memory.specs.declared.fault.NoWord.{NoWord}
use Rattle.memory.specs.Refusals.{of_no_word}

-- an answer where the address has a word, else refusal 13
abbrev pub if_inside : {A : Type 0} → List ℕ → ℕ → A → Result A Declined
if_inside ws a x = if nat_lt a (length ws) then Ok x else Err (refused 13 [])

-- reading answers the word at an address
abbrev pub reading : List ℕ → ℕ → Result ℕ Declined
reading ws a = if_inside ws a (slice_index ws a)

-- writing answers only whether there is a word
abbrev pub writing : List ℕ → ℕ → Result (Unit {0}) Declined
writing ws a = if_inside ws a tt

-- a memory before and after the word at address a is read, and what is answered
pub record ReadsWord {M F : Type 0} (words : M → List ℕ) (frame : M → F) (before after : M) (a : ℕ) (result : Result ℕ NoWord) : Type 0 where
  pub answer : told of_no_word result ≡ reading (words before) a
  -- the words stay, but not always the memory's inside: a cache takes the word into a line
  pub kept : words after ≡ words before
  pub held : frame after ≡ frame before
  -- a refused call leaves the memory whole
  pub refused : length (words before) ≤ a → after ≡ before

-- a memory before and after w is written at address a, and what is answered
pub record WritesWord {M F : Type 0} (words : M → List ℕ) (frame : M → F) (before after : M) (a w : ℕ) (result : Result (Unit {0}) NoWord) : Type 0 where
  pub answer : told of_no_word result ≡ writing (words before) a
  -- (to set a list beyond its end changes nothing)
  pub left : words after ≡ slice_set (words before) a w
  pub held : frame after ≡ frame before
  -- a refused call leaves the memory whole
  pub refused : length (words before) ≤ a → after ≡ before

-- a memory before and after the word at address a is replaced by w, and what is answered: the word that stood there
pub record ReplacesWord {M F : Type 0} (words : M → List ℕ) (frame : M → F) (before after : M) (a w : ℕ) (result : Result ℕ NoWord) : Type 0 where
  pub answer : told of_no_word result ≡ reading (words before) a
  pub left : words after ≡ slice_set (words before) a w
  pub held : frame after ≡ frame before
