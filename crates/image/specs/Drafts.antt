-- What an image is written from.
use Rattle.std.specs.Prelude.{◌≡◌, ℕ, List}
use Rattle.image.specs.declared.draft.Draft.{Draft}
use Rattle.image.specs.Format.{Contents}
use Rattle.image.specs.Writing.{given}

-- what the image of a draft holds
abbrev pub drafted : Draft → Contents
drafted d = given d.program.now d.words.now d.depth

-- a draft of a program, data words and a depth
pub record IsDraftOf (ps ws : List ℕ) (d : ℕ) (draft : Draft) : Type 0 where
  pub program : draft.program.now ≡ ps
  pub words : draft.words.now ≡ ws
  pub depth : draft.depth ≡ d
