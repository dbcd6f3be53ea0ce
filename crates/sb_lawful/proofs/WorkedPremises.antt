-- Where a premise of a law fails, a command that isn't refused beforehand leaves a database that isn't lawful: an attachment that has the name of the
-- mirror to come, a mirror that is attached by itself, and a mirror that is detached by itself. The language has no names for these.
use Rattle.std.proofs.Common.{◌≡◌, ℕ, false, codes, List, [], ◌∷◌, Option, Some, None, refl, arith}
use Rattle.std.proofs.lemmas.Bool.{true≢false}
use Rattle.sb_rule.specs.declared.rule.Mode.TheVariants.{Restrict}
use Rattle.sb_rule.specs.declared.rule.Rule.{Rule}
use Rattle.sb_rule.specs.declared.rule.Rule.TheVariants.{HashIndex, Refers}
use Rattle.sb_rule.specs.declared.rule.Side.TheVariants.{Main, Mirror}
use Rattle.sb_relation.specs.Db.{Name, Attached, Relation, Db, int_column}
use Rattle.sb_fold.specs.Extensions.{Extensions}
use Rattle.sb_plain.specs.declared.command.Command.TheVariants as command
use Rattle.sb_plain.specs.Lawful.{IsLawful}
use Rattle.sb_plain.specs.Refusing.{refused}
use Rattle.sb_plain.specs.State.{State, view}
use Rattle.sb_plain.specs.Step.{step}
use Rattle.sb_lawful.proofs.Attaching.{attached-lawful}
use Rattle.sb_lawful.proofs.Commands.{lawful_empty}
use Rattle.sb_lawful.proofs.Creating.{created-lawful}
use Rattle.sb_lawful.proofs.Naming.{dotless-no-mirror}

abbrev no_extensions : Extensions
no_extensions = record { boxes = record { methods = []; attachments = [] }; methods = []; attachments = [] }

-- outside a transaction, with the standard codes
abbrev over : Db → State
over db = record {
  live = record { methods = 1 ∷ 2 ∷ 3 ∷ []; attachments = 1 ∷ 2 ∷ 3 ∷ 4 ∷ 5 ∷ 6 ∷ 7 ∷ [] };
  spare = record { methods = []; attachments = [] };
  commits = db ∷ [];
  transaction = None;
  down = false;
}

-- two relations of a column v, without rows
abbrev heap : List Attached → Relation
heap items = record { method = 1; schema = int_column (codes "v") ∷ []; key = []; rows = []; attachments = items }

abbrev two : List Attached → List Attached → Db
two first second = (codes "a", heap first) ∷ (codes "b", heap second) ∷ []

two_lawful : IsLawful no_extensions (two [] [])
two_lawful =
    created-lawful no_extensions ((codes "a", heap []) ∷ []) (codes "b") 1 (int_column (codes "v") ∷ []) [] (record { there = refl; new = refl; named = refl; fits = refl; alike = refl; within = refl })
    (created-lawful no_extensions [] (codes "a") 1 (int_column (codes "v") ∷ []) [] (record { there = refl; new = refl; named = refl; fits = refl; alike = refl; within = refl }) (lawful_empty no_extensions))

-- x on a refers to b
abbrev tie : Rule
tie = Refers Main (codes "v" ∷ []) (codes "b") (codes "v" ∷ []) Restrict false

abbrev mirror : Rule
mirror = Refers Mirror (codes "v" ∷ []) (codes "a") (codes "v" ∷ []) Restrict false

abbrev index : Rule
index = HashIndex (codes "v" ∷ [])

abbrev named : Name → Rule → ℕ → Attached
named name rule buckets = record { name = name; rule = rule; buckets = buckets }

-- a command isn't refused beforehand over a lawful database, and leaves this one, which isn't lawful
record Breaks (old new : Db) : Type 0 where
  lawful : IsLawful no_extensions old
  broken : IsLawful no_extensions new → ⊥

-- ---- an index on b has the name a.x
abbrev taken : Db
taken = two [] (named (codes "a.x") index 4 ∷ [])

abbrev twice : Db
twice = two (named (codes "x") tie 0 ∷ []) (named (codes "a.x") index 4 ∷ named (codes "a.x") mirror 0 ∷ [])

not_refused_taken : refused no_extensions (over taken) (command.Attach (codes "a") (codes "x") tie) ≡ None
not_refused_taken = refl

leaves_twice : view (step no_extensions (over taken) (command.Attach (codes "a") (codes "x") tie) []).state ≡ twice
leaves_twice = refl

a_taken_name : Breaks taken twice
a_taken_name = record {
  lawful = attached-lawful no_extensions (two [] []) (codes "b") (codes "a.x") index (record { there = refl; new = refl; named = refl; fits = refl; alike = refl; within = refl }) refl tt refl two_lawful;
  broken = λ is. let again : Some (codes "a.x") ≡ None = (is.relations 1 (codes "a", heap []) (omega arith)).apart in absurd (cc);
}

-- ---- a mirror is attached by itself, under a name of the language
abbrev alone : Db
alone = two [] (named (codes "m") mirror 0 ∷ [])

not_refused_mirror : refused no_extensions (over (two [] [])) (command.Attach (codes "b") (codes "m") mirror) ≡ None
not_refused_mirror = refl

leaves_alone : view (step no_extensions (over (two [] [])) (command.Attach (codes "b") (codes "m") mirror) []).state ≡ alone
leaves_alone = refl

a_mirror_alone : Breaks (two [] []) alone
a_mirror_alone = record { lawful = two_lawful; broken = λ is. true≢false (dotless-no-mirror no_extensions alone (codes "b") (codes "m") refl is (named (codes "m") mirror 0) refl) }

-- ---- a mirror is detached by itself
abbrev tied : Db
tied = two (named (codes "x") tie 0 ∷ []) (named (codes "a.x") mirror 0 ∷ [])

abbrev untied : Db
untied = two (named (codes "x") tie 0 ∷ []) []

not_refused_detach : refused no_extensions (over tied) (command.Detach (codes "b") (codes "a.x")) ≡ None
not_refused_detach = refl

leaves_untied : view (step no_extensions (over tied) (command.Detach (codes "b") (codes "a.x")) []).state ≡ untied
leaves_untied = refl

a_mirror_detached : Breaks tied untied
a_mirror_detached = record {
  lawful = attached-lawful no_extensions (two [] []) (codes "a") (codes "x") tie (record { there = refl; new = refl; named = refl; fits = refl; alike = refl; within = refl }) refl refl refl two_lawful;
  broken = λ is. let has = (is.relations 0 (codes "a", heap []) (omega arith)).mirrored 0 (named [] tie 0) (omega arith) in let none : ◌≡◌ {A = Option Attached} None (Some has.0) = has.1 in absurd (cc);
}
