-- What a command would take away from those that use it.
use Rattle.std.specs.Prelude.{◌≡◌, ◌==◌, true, false, cond, [], ◌∷◌, Option, Some, None, option_map}
use Rattle.std.specs.List.{find}
use Rattle.std.specs.Str.{bytes_eq}
use Rattle.sb_rule.specs.Spelling.{rule_code}
use Rattle.sb_relation.specs.Db.{Name, Relation, Db}
use Rattle.sb_plain.specs.declared.command.Command.{Command}
use Rattle.sb_plain.specs.declared.command.Command.TheVariants as command
use Rattle.sb_plain.specs.Refusing.{ties_to}
use Rattle.sb_refusals.specs.declared.uses.Step.{Step}
use Rattle.sb_refusals.specs.declared.uses.Step.TheVariants.{Used, Unused, End}

-- the first attachment of the relation that uses what the command takes away; a method has the name -
abbrev pub user_at : Command → Name → Relation → Option Name
user_at (command.Drop relation) name r = cond (bytes_eq name relation) None (option_map (λ a. a.name) (find (λ a. ties_to relation a.rule) r.attachments))
user_at (command.Retire true code) name r = cond (r.method == code) (Some (45 ∷ [])) None
user_at (command.Retire false code) name r = option_map (λ a. a.name) (find (λ a. rule_code a.rule == code) r.attachments)
user_at _ name r = None

-- the first one of all relations
abbrev pub user_in : Command → Db → Option (Name × Name)
user_in c [] = None
user_in c (e ∷ db) = elim (user_at c e.0 e.1) [ None ↦ user_in c db | Some name ↦ Some (e.0, name) ]

-- a step over the first relation: it uses what the command takes away, or doesn't; or there is none
abbrev pub IsStep : Command → Db → Step → Type 0
IsStep c [] End = Unit {0}
IsStep c (e ∷ db) (Used relation name) = (relation ≡ e.0) × (user_at c e.0 e.1 ≡ Some name)
IsStep c (e ∷ db) (Unused relation) = (relation ≡ e.0) × (user_at c e.0 e.1 ≡ None)
IsStep c _ _ = ⊥
