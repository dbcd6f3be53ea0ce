-- Worked examples of words, which the definitions of clap compute.
use Rattle.std.proofs.Common.{◌≡◌, ◌∷◌, List, Option, Result, Some, None, [], true, false, codes, lit≤, refl, sym, ◌∙◌}
use Rattle.std.specs.Prelude.{IfOk}
use Rattle.std.specs.declared.alloc.AllocError.{AllocError}
use Rattle.clap.specs.Words.{Text, fault_of, matches_of}
use Rattle.clap.specs.declared.error.kind.ErrorKind.TheVariants as kind
use Rattle.clap.proofs.OnLiterals.{clap_on_literals}
use Rattle.sb_words.specs.Words.{Asks, IsRead, IsTaken, starburst}
use Rattle.sb_words.specs.declared.words.Words.{Words}
use Rattle.sb_words.proofs.AnswerLemmas.{IsRead-refused, IsRead-taken}

abbrev Answer : Type 0
Answer = Result (Option Words) AllocError

-- ---- `--store s`
abbrev a_store : List Text
a_store = codes "--store" ∷ codes "s" ∷ []

abbrev with_defaults : Words
with_defaults = record { store = codes "s"; create = false; pages = 1024; log = 4194304; frames = 64 }

a_store_is_taken : IsTaken a_store
unfolding starburst clap_on_literals
a_store_is_taken = refl

a_store_asks : Asks (matches_of starburst a_store) with_defaults
unfolding starburst clap_on_literals
a_store_asks = record {
  store = refl;
  create = refl;
  pages = refl;
  log = refl;
  frames = refl;
  pages_range = (lit≤ tt, lit≤ tt);
  log_range = (lit≤ tt, lit≤ tt);
  frames_range = (lit≤ tt, lit≤ tt);
}

pub a_store_is_read : (r : Answer) → IsRead a_store r → IfOk r (λ o. o ≡ Some with_defaults)
a_store_is_read = IsRead-taken a_store with_defaults a_store_is_taken a_store_asks

-- ---- `--store s --create`
abbrev a_new_store : List Text
a_new_store = codes "--store" ∷ codes "s" ∷ codes "--create" ∷ []

abbrev to_create : Words
to_create = record { store = codes "s"; create = true; pages = 1024; log = 4194304; frames = 64 }

a_new_store_is_taken : IsTaken a_new_store
unfolding starburst clap_on_literals
a_new_store_is_taken = refl

a_new_store_asks : Asks (matches_of starburst a_new_store) to_create
unfolding starburst clap_on_literals
a_new_store_asks = record {
  store = refl;
  create = refl;
  pages = refl;
  log = refl;
  frames = refl;
  pages_range = (lit≤ tt, lit≤ tt);
  log_range = (lit≤ tt, lit≤ tt);
  frames_range = (lit≤ tt, lit≤ tt);
}

pub a_new_store_is_read : (r : Answer) → IsRead a_new_store r → IfOk r (λ o. o ≡ Some to_create)
a_new_store_is_read = IsRead-taken a_new_store to_create a_new_store_is_taken a_new_store_asks

-- ---- `--store s --create --pages 64 --log 2097152 --frames 8`
abbrev a_small_store : List Text
a_small_store = codes "--store" ∷ codes "s" ∷ codes "--create" ∷ codes "--pages" ∷ codes "64" ∷ codes "--log" ∷ codes "2097152" ∷ codes "--frames" ∷ codes "8" ∷ []

abbrev the_least : Words
the_least = record { store = codes "s"; create = true; pages = 64; log = 2097152; frames = 8 }

a_small_store_is_taken : IsTaken a_small_store
unfolding starburst clap_on_literals
a_small_store_is_taken = refl

a_small_store_asks : Asks (matches_of starburst a_small_store) the_least
unfolding starburst clap_on_literals
a_small_store_asks = record {
  store = refl;
  create = refl;
  pages = refl;
  log = refl;
  frames = refl;
  pages_range = (lit≤ tt, lit≤ tt);
  log_range = (lit≤ tt, lit≤ tt);
  frames_range = (lit≤ tt, lit≤ tt);
}

pub a_small_store_is_read : (r : Answer) → IsRead a_small_store r → IfOk r (λ o. o ≡ Some the_least)
a_small_store_is_read = IsRead-taken a_small_store the_least a_small_store_is_taken a_small_store_asks

-- ---- words that are refused
no_words_lack_a_store : fault_of starburst [] ≡ kind.MissingRequiredArgument ∷ []
unfolding starburst clap_on_literals
no_words_lack_a_store = refl

pub no_words_are_refused : (r : Answer) → IsRead [] r → IfOk r (λ o. o ≡ None)
no_words_are_refused = IsRead-refused [] (λ taken. let bad : kind.MissingRequiredArgument ∷ [] ≡ [] = sym no_words_lack_a_store ∙ taken in cc)

too_few_pages_are_refused : fault_of starburst (codes "--store" ∷ codes "s" ∷ codes "--pages" ∷ codes "63" ∷ []) ≡ kind.ValueValidation ∷ []
unfolding starburst clap_on_literals
too_few_pages_are_refused = refl

help_is_refused : fault_of starburst (codes "--store" ∷ codes "s" ∷ codes "--help" ∷ []) ≡ kind.UnknownArgument ∷ []
unfolding starburst clap_on_literals
help_is_refused = refl
