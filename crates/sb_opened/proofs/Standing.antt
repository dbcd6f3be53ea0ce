-- Rules as live boxes keep them.
use Rattle.std.proofs.Common.{◌≡◌, ◌<◌, ℕ, zero, suc, ◌==◌, Bool, true, false, cond, List, [], ◌∷◌, length, get_or, Option, Some, None, is_some, option_map, refl, sym, ap, subst, ◌∙◌, arith, eqb-true}
use Rattle.std.specs.List.{find as first}
use Rattle.std.proofs.lemmas.Option.{same_Some}
use Rattle.sb_value.specs.declared.schema.Column.{Column}
use Rattle.sb_rule.specs.declared.rule.Rule.{Rule}
use Rattle.sb_rule.specs.Spelling.{rule_spelling, SpellsRule}
use Rattle.sb_relation.specs.Db
use Rattle.sb_relation.specs.Db.{Name, relation_at}
use Rattle.sb_relation.specs.Fits.{MayStand}
use Rattle.sb_relation.specs.Foreign.{AttachRules}
use Rattle.sb_ctx.specs.declared.instance.Instance.{Instance}
use Rattle.sb_ctx.specs.Attachment.{Attachment, IsOwned, JoinsAnother, keeps_pages}
use Rattle.sb_ctx.specs.Laws.{IsAttachment}
use Rattle.sb_catalog.specs.declared.descriptor.Attached.{Attached}
use Rattle.sb_catalog.specs.declared.descriptor.Descriptor.{Descriptor}
use Rattle.sb_catalog.specs.Descriptors.{IsStorableAttached}
use Rattle.sb_catalog.proofs.Parts.{one_rule}
use Rattle.sb_kinds.specs.Others.{Knows, tied_by}
use Rattle.sb_kinds.proofs.Bare.{bare, bare-own, bare-rows, empty_relation}
use Rattle.sb_registry.specs.Boxes.{Meanings, attachment_of}
use Rattle.sb_registry.specs.Live.{IsLiveRule}
use Rattle.sb_standing.specs.Standing.{EachRule, StandsRule}
use Rattle.sb_opened.specs.Opened.{HasPlace, OwnsPages, rule_of}

-- ---- the live box of a code
attachment_of-code : (code : ℕ) (attachments : List Attachment) (box : Attachment) → attachment_of code attachments ≡ Some box → box.rules.code ≡ code
attachment_of-code code [] box is = cc
attachment_of-code code (x ∷ attachments) box is =
    elim (x.rules.code == code) as (λ t. x.rules.code == code ≡ t → cond t (Some x) (attachment_of code attachments) ≡ Some box → box.rules.code ≡ code) [
      | true ↦ λ same there. ap (λ (a : Attachment). a.rules.code) (sym (same_Some x box there)) ∙ eqb-true x.rules.code code same
      | false ↦ λ other there. attachment_of-code code attachments box there
    ]
    refl is

-- what is known of it apart from pages
abbrev pub rules_at : Meanings → ℕ → Option AttachRules
rules_at m code = option_map (λ (a : Attachment). a.rules) (attachment_of code m.attachments)

-- ---- pages
IsOwned-owns : (keeps : Bool) (inst : Instance) → OwnsPages keeps inst.owner → IsOwned keeps inst
IsOwned-owns true inst owns = owns
IsOwned-owns false inst owns = owns

OwnsPages-owned : (keeps : Bool) (inst : Instance) → IsOwned keeps inst → OwnsPages keeps inst.owner
OwnsPages-owned true inst owned = owned
OwnsPages-owned false inst owned = owned

-- ---- a rule that a live box keeps over some database
pub IsLiveRule-kept : (m : Meanings) (name : Name) (d : Descriptor) (a : Attached) (other : Option (List Column)) → is_some (attachment_of a.code m.attachments) ≡ true
    → ((box : Attachment) → attachment_of a.code m.attachments ≡ Some box → IsAttachment box) → IsStorableAttached a → HasPlace name a
    → MayStand (rules_at m a.code) (bare name d.schema a.rule other) d.schema a.rule → IsLiveRule m (rule_of name d a)
IsLiveRule-kept m name d a other live law storable place may = by (attachment_of a.code m.attachments) refl live may
  where
    by : (o : Option Attachment) → attachment_of a.code m.attachments ≡ o → is_some o ≡ true → MayStand (option_map (λ (x : Attachment). x.rules) o) (bare name d.schema a.rule other) d.schema a.rule
        → IsLiveRule m (rule_of name d a)
    by None at live may = absurd (cc)
    by (Some box) at live may =
        let code : box.rules.code ≡ a.code = attachment_of-code a.code m.attachments box at in
        let counted = storable.2 in
        record {
          box = box;
          live = at;
          may = record {
            code = sym code;
            key = refl;
            owned = IsOwned-owns (keeps_pages box.rules.code) (rule_of name d a) (subst (λ (c : ℕ). OwnsPages (keeps_pages c) a.owner) (sym code) place.owned);
            rule = a.rule;
            db = bare name d.schema a.rule other;
            stands = record {
              spelled = record { coded = code ∙ counted.coded; spelled = refl; storable = counted.storable; limited = counted.limited };
              relation = empty_relation d.schema;
              there = bare-own name d.schema a.rule other;
              schema = refl;
              lawful = bare-rows name d.schema a.rule other;
              joins = place.joins;
              may = may;
            };
          };
          law = law box at;
        }

-- ---- a rule that stands over the database
-- it is the one that the attachment spells
same-rule : (m : Meanings) (name : Name) (d : Descriptor) (a : Attached) (other : Db.Attached) (db : Db.Db) → IsStorableAttached a → StandsRule m (rule_of name d a) other db → other.rule ≡ a.rule
same-rule m name d a other db storable stands =
    let counted = storable.2 in
    one_rule stands.box.rules.code (rule_spelling a.rule) other.rule a.rule stands.stands.spelled
    (record { coded = sym stands.code ∙ counted.coded; spelled = refl; storable = counted.storable; limited = counted.limited })

pub HasPlace-stands : (m : Meanings) (name : Name) (d : Descriptor) (a : Attached) (other : Db.Attached) (db : Db.Db) → IsStorableAttached a → StandsRule m (rule_of name d a) other db → HasPlace name a
HasPlace-stands m name d a other db storable stands = record {
  owned = OwnsPages-owned (keeps_pages a.code) (rule_of name d a) (subst (λ (c : ℕ). IsOwned (keeps_pages c) (rule_of name d a)) (sym stands.code) stands.owner);
  joins = subst (λ (r : Rule). JoinsAnother name r) (same-rule m name d a other db storable stands) stands.stands.joins;
}

pub is_live-stands : (m : Meanings) (name : Name) (d : Descriptor) (a : Attached) (other : Db.Attached) (db : Db.Db) → StandsRule m (rule_of name d a) other db → is_some (attachment_of a.code m.attachments) ≡ true
is_live-stands m name d a other db stands = ap (λ o. is_some o) stands.live

pub MayStand-stands : (m : Meanings) (name : Name) (d : Descriptor) (a : Attached) (other : Db.Attached) (db : Db.Db) → IsStorableAttached a → StandsRule m (rule_of name d a) other db
    → MayStand (rules_at m a.code) db d.schema a.rule
MayStand-stands m name d a other db storable stands =
    subst (λ (o : Option AttachRules). MayStand o db d.schema a.rule) (sym (ap (option_map (λ (x : Attachment). x.rules)) stands.live))
    (subst (λ (r : Rule). MayStand (Some stands.box.rules) db d.schema r) (same-rule m name d a other db storable stands) stands.stands.may)

-- ---- the second relation
pub Knows-none : (db : Db.Db) (rule : Rule) (other : Option (List Column)) → tied_by rule ≡ None → Knows db rule other
Knows-none db rule other none = record { second = λ name is. absurd (cc) }

pub Knows-second : (db : Db.Db) (rule : Rule) (other : Option (List Column)) (name : Name) → tied_by rule ≡ Some name → option_map (λ r. r.schema) (relation_at db name) ≡ other → Knows db rule other
Knows-second db rule other name tied is = record {
  second = λ n at.
      let same : name ≡ n = same_Some name n (sym tied ∙ at) in
      subst (λ (x : Name). option_map (λ r. r.schema) (relation_at db x) ≡ other) same is;
}

pub columns-own : (m : Meanings) (name : Name) (d : Descriptor) (a : Attached) (other : Db.Attached) (db : Db.Db) → StandsRule m (rule_of name d a) other db
    → option_map (λ r. r.schema) (relation_at db name) ≡ Some d.schema
columns-own m name d a other db stands = ap (option_map (λ r. r.schema)) stands.stands.there ∙ ap Some stands.stands.schema

-- ---- rules one after the other
pub rule-at : (P : Attached → Db.Attached → Type 0) (ds : List Attached) (others : List Db.Attached) (i : ℕ) (d : Attached) → i < length ds → EachRule P ds others → (a : Db.Attached) × P (get_or ds i d) a
rule-at P [] others i d within each = absurd (omega (arith, within))
rule-at P (x ∷ ds) [] i d within each = absurd each
rule-at P (x ∷ ds) (a ∷ others) zero d within each = (a, each.0)
rule-at P (x ∷ ds) (a ∷ others) (suc i) d within each = rule-at P ds others i d (omega (arith, within)) each.1
