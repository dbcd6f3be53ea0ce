-- The refusals of a command, in four groups.
use Rattle.std.specs.Prelude.{not, List, [], ◌∷◌, ◌++◌, Option, option_map}
use Rattle.sb_relation.specs.Fits.{first_missing}
use Rattle.sb_fold.specs.declared.refusal.Refusal.{Refusal}
use Rattle.sb_fold.specs.declared.refusal.Refusal.TheVariants as refusal
use Rattle.sb_fold.specs.Extensions.{Extensions}
use Rattle.sb_plain.specs.declared.command.Command.{Command}
use Rattle.sb_plain.specs.Refusing.{refuse_where, is_misplaced, relations_of, first_existing, first_absent, missing_code, first_use, is_well_kinded, is_mixed, passes_limits}
use Rattle.sb_plain.specs.State.{State, view}

-- by the place of the command
abbrev pub place_tests : State → Command → List (Option Refusal)
place_tests s c = refuse_where s.down refusal.Down ∷ refuse_where (is_misplaced s c) refusal.State ∷ []

-- by names
abbrev pub name_tests : State → Command → List (Option Refusal)
name_tests s c =
    option_map refusal.NoRelation (first_missing (view s) (relations_of c))
    ∷ option_map refusal.Exists (first_existing s c)
    ∷ option_map refusal.NoName (first_absent s c)
    ∷ []

-- by extensions and their users
abbrev pub code_tests : State → Command → List (Option Refusal)
code_tests s c = option_map refusal.NoExtension (missing_code s c) ∷ option_map (λ user. refusal.InUse user.0 user.1) (first_use (view s) c) ∷ []

-- by kinds, ties and limits
abbrev pub kind_tests : Extensions → State → Command → List (Option Refusal)
kind_tests ext s c =
    refuse_where (not (is_well_kinded ext (view s) c)) refusal.Mistyped
    ∷ refuse_where (is_mixed ext (view s) c) refusal.Mixed
    ∷ refuse_where (passes_limits s c) refusal.Limit
    ∷ []

-- of a command that has a place
abbrev pub seen_tests : Extensions → State → Command → List (Option Refusal)
seen_tests ext s c = name_tests s c ++ (code_tests s c ++ kind_tests ext s c)
