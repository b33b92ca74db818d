-- The number of the refusal about addresses.
use Rattle.std.specs.Prelude.{[]}
use Rattle.refusal.specs.Refusals.{Declined, refused}
use Rattle.memory.specs.declared.fault.NoWord.{NoWord}

-- 13: the address has no word
abbrev pub of_no_word : NoWord → Declined
of_no_word f = refused 13 []
