-- What uses that which a command takes away.
use Rattle.std.proofs.Common.{◌≡◌, ◌==◌, ℕ, Bool, true, false, cond, not, ◌&&◌, List, [], ◌∷◌, Option, Some, None, option_map, bytes_eq, refl, sym, ap, ◌∙◌}
use Rattle.std.specs.List.{find}
use Rattle.sb_rule.specs.Spelling.{rule_code}
use Rattle.sb_relation.specs.Db as db
use Rattle.sb_catalog.specs.declared.descriptor.Attached.{Attached}
use Rattle.sb_catalog.specs.declared.descriptor.Descriptor.{Descriptor}
use Rattle.sb_catalog.specs.Descriptors.{IsDescriptorOf}
use Rattle.sb_plain.specs.declared.command.Command.{Command}
use Rattle.sb_plain.specs.declared.command.Command.TheVariants as command
use Rattle.sb_plain.specs.Refusing.{ties_to, first_attached, first_kept_by, first_use}
use Rattle.sb_refusals.specs.Uses.{user_at, user_in}
use Rattle.sb_refusals.proofs.Alike.{tie_alike, code_alike}

-- ---- one relation
pub tied : (c : Command) (relation name : db.Name) (d : Descriptor) (r : db.Relation) (x : Option db.Name) (o : Option Attached) → c ≡ command.Drop relation
    → o ≡ cond (bytes_eq name relation) None (find (λ a. ties_to relation a.rule) d.attachments) → x ≡ option_map (λ a. a.name) o → IsDescriptorOf r d → x ≡ user_at c name r
tied c relation name d r x o is found e of =
    e ∙ ap (λ (a : Option Attached). option_map (λ a. a.name) a) found ∙ by (bytes_eq name relation) ∙ sym (ap (λ k. user_at k name r) is)
  where
    by : (t : Bool) → option_map (λ a. a.name) (cond {A = Option Attached} t None (find (λ a. ties_to relation a.rule) d.attachments))
        ≡ cond t None (option_map (λ a. a.name) (find (λ a. ties_to relation a.rule) r.attachments))
    by true = refl
    by false = tie_alike relation d.attachments r.attachments of.attachments

pub coded : (c : Command) (method : Bool) (code : ℕ) (name : db.Name) (d : Descriptor) (r : db.Relation) (x : Option db.Name) (o : Option Attached) → c ≡ command.Retire method code → method ≡ false
    → o ≡ find (λ a. a.code == code) d.attachments → x ≡ option_map (λ a. a.name) o → IsDescriptorOf r d → x ≡ user_at c name r
coded c method code name d r x o is kind found e of =
    e ∙ ap (λ (a : Option Attached). option_map (λ a. a.name) a) found ∙ code_alike code d.attachments r.attachments of.attachments ∙ sym (ap (λ k. user_at k name r) (is ∙ ap (λ (m : Bool). command.Retire m code) kind))

-- ---- all relations
none_found : {X : Type 0} (p : X → Bool) (xs : List X) → find (λ x. false && p x) xs ≡ None
none_found p [] = refl
none_found p (x ∷ xs) = none_found p xs

one_tied : (relation name : db.Name) (r : db.Relation)
    → option_map (λ a. a.name) (find (λ a. not (bytes_eq name relation) && ties_to relation a.rule) r.attachments) ≡ user_at (command.Drop relation) name r
one_tied relation name r =
    elim (bytes_eq name relation)
    as (λ t. option_map (λ a. a.name) (find (λ a. not t && ties_to relation a.rule) r.attachments) ≡ cond t None (option_map (λ a. a.name) (find (λ a. ties_to relation a.rule) r.attachments))) [
      | true ↦ ap (λ (o : Option db.Attached). option_map (λ a. a.name) o) (none_found (λ a. ties_to relation a.rule) r.attachments)
      | false ↦ refl
    ]

-- the first attachment that is meant
attached_first : (is_meant : db.Name → db.Attached → Bool) (c : Command)
    → ((name : db.Name) (r : db.Relation) → option_map (λ a. a.name) (find (is_meant name) r.attachments) ≡ user_at c name r) → (d : db.Db) → first_attached is_meant d ≡ user_in c d
attached_first is_meant c same [] = refl
attached_first is_meant c same ((name, r) ∷ d) =
    elim (find (is_meant name) r.attachments)
    as (λ o. elim o as (λ _. Option (db.Name × db.Name)) [ None ↦ first_attached is_meant d | Some a ↦ Some (name, a.name) ]
    ≡ elim (option_map (λ a. a.name) o) as (λ _. Option (db.Name × db.Name)) [ None ↦ user_in c d | Some user ↦ Some (name, user) ]) [
      | None ↦ attached_first is_meant c same d
      | Some a ↦ refl
    ]
    ∙ ap (λ o. elim o as (λ _. Option (db.Name × db.Name)) [ None ↦ user_in c d | Some user ↦ Some (name, user) ]) (same name r)

kept_first : (code : ℕ) (d : db.Db) → first_kept_by code d ≡ user_in (command.Retire true code) d
kept_first code [] = refl
kept_first code (e ∷ d) =
    elim (e.1.method == code)
    as (λ t. option_map (λ (e : db.Name × db.Relation). (e.0, 45 ∷ [])) (cond {A = Option (db.Name × db.Relation)} t (Some e) (find (λ e. e.1.method == code) d))
    ≡ elim (cond {A = Option db.Name} t (Some (45 ∷ [])) None) as (λ _. Option (db.Name × db.Name)) [ None ↦ user_in (command.Retire true code) d | Some user ↦ Some (e.0, user) ]) [
      | true ↦ refl
      | false ↦ kept_first code d
    ]

pub drop_used : (c : Command) (relation : db.Name) (d : db.Db) → c ≡ command.Drop relation → user_in c d ≡ first_use d c
drop_used c relation d is =
    ap (λ k. user_in k d) is ∙ sym (attached_first (λ name a. not (bytes_eq name relation) && ties_to relation a.rule) (command.Drop relation) (one_tied relation) d) ∙ sym (ap (first_use d) is)

pub retire_used : (c : Command) (method : Bool) (code : ℕ) (d : db.Db) → c ≡ command.Retire method code → user_in c d ≡ first_use d c
retire_used c method code d is = ap (λ k. user_in k d) is ∙ by method ∙ sym (ap (first_use d) is)
  where
    by : (method : Bool) → user_in (command.Retire method code) d ≡ first_use d (command.Retire method code)
    by true = sym (kept_first code d)
    by false = sym (attached_first (λ name a. rule_code a.rule == code) (command.Retire false code) (λ name r. refl) d)
