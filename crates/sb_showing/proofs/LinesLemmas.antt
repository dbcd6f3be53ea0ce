-- The lines of a descriptor are those of the relation that it describes, and its commands can be stored.
use Rattle.std.proofs.Common.{◌≡◌, ℕ, ◌^◌, ◌<◌, Bool, true, false, cond, List, [], ◌∷◌, ◌++◌, map, Option, Some, None, option_map, IsUtf8, arith, refl, sym, ap, ◌∙◌}
use Rattle.std.specs.List.{cons_option, filter_map, flat_map}
use Rattle.sb_rule.specs.declared.rule.Rule.{Rule}
use Rattle.sb_relation.specs.Db
use Rattle.sb_relation.specs.Db.{Name, Relation, relation_at}
use Rattle.sb_catalog.specs.declared.descriptor.Attached.{Attached}
use Rattle.sb_catalog.specs.declared.descriptor.Descriptor.{Descriptor}
use Rattle.sb_catalog.specs.Descriptors.{IsDescriptorOf, IsStorableAttached, IsStorableDescriptor, described, standing}
use Rattle.sb_plain.specs.declared.command.Command.TheVariants as command
use Rattle.sb_plain.specs.Printing.{attaching, command_text, is_mirror, shown}
use Rattle.sb_drive.specs.Slots.{Slots}
use Rattle.sb_registry.specs.Boxes.{Meanings}
use Rattle.sb_opened.specs.Tables.{Kept, KeepsTable, Tables, db_of, kept_at}
use Rattle.sb_opened.proofs.KeptLemmas.{kept_at-all, relation_at-none, relation_at-there}
use Rattle.sb_opened.specs.Opened.{IsDurable}
use Rattle.sb_showing.specs.Lines.{IsStorableCommand, attachment, attachment_lines, creation, descriptor_lines}

-- ---- the commands of a descriptor
pub IsStorableCommand-creation : (relation : Name) (d : Descriptor) → IsUtf8 relation → IsStorableDescriptor d → IsStorableCommand (creation relation d)
IsStorableCommand-creation relation d u is = (u, is.instance.0, is.columns, is.key)

pub IsStorableCommand-attachment : (relation : Name) (a : Attached) → IsUtf8 relation → IsStorableAttached a → IsStorableCommand (attachment relation a)
IsStorableCommand-attachment relation a u is =
    let small : a.code < 2 ^ 16 = is.0.0 in
    (u, is.1, omega (arith, small, is.2.coded), is.2.storable)

-- ---- the lines of an attachment
pub attachment_lines-mirror : (relation : Name) (a : Attached) → is_mirror a.rule ≡ true → attachment_lines relation a ≡ []
unfolding attachment_lines
attachment_lines-mirror relation a mirror = ap (λ (q : Bool). cond q [] (command_text (attachment relation a) ∷ [])) mirror

pub attachment_lines-main : (relation : Name) (a : Attached) → is_mirror a.rule ≡ false → attachment_lines relation a ≡ command_text (attachment relation a) ∷ []
unfolding attachment_lines
attachment_lines-main relation a main = ap (λ (q : Bool). cond q [] (command_text (attachment relation a) ∷ [])) main

attachments-described : (relation : Name) (ds : List Attached) (others : List Db.Attached) → map described ds ≡ map standing others →
    flat_map (attachment_lines relation) ds ≡ map command_text (filter_map (attaching relation) others)
unfolding attachment_lines
attachments-described relation [] [] same = refl
attachments-described relation [] (a ∷ others) same = absurd (cc)
attachments-described relation (d ∷ ds) [] same = absurd (cc)
attachments-described relation (d ∷ ds) (a ∷ others) same =
    let one : described d ≡ standing a = cc in
    let rest : map described ds ≡ map standing others = cc in
    let named : d.name ≡ a.name = ap (λ (x : ℕ × Name × Rule). x.1) one in
    let ruled : d.rule ≡ a.rule = ap (λ (x : ℕ × Name × Rule). x.2) one in
    (λ i. cond (is_mirror (ruled i)) [] (command_text (command.Attach relation (named i) (ruled i)) ∷ []) ++ attachments-described relation ds others rest i) ∙ by (is_mirror a.rule)
  where
    by : (q : Bool) → cond q [] (command_text (command.Attach relation a.name a.rule) ∷ []) ++ map command_text (filter_map (attaching relation) others)
        ≡ map command_text (cons_option (cond q None (Some (command.Attach relation a.name a.rule))) (filter_map (attaching relation) others))
    by true = refl
    by false = refl

-- ---- the lines of a relation
pub descriptor_lines-made : (relation : Name) (d : Descriptor) (first : List ℕ) (lines : List (List ℕ)) → first ≡ command_text (creation relation d) →
    lines ≡ (first ∷ []) ++ flat_map (attachment_lines relation) d.attachments → lines ≡ descriptor_lines relation d
unfolding descriptor_lines
descriptor_lines-made relation d first lines created made = made ∙ ap (λ (line : List ℕ). line ∷ flat_map (attachment_lines relation) d.attachments) created

descriptor_lines-described : (relation : Name) (d : Descriptor) (r : Relation) → IsDescriptorOf r d → descriptor_lines relation d ≡ shown relation (Some r)
unfolding descriptor_lines
descriptor_lines-described relation d r is =
    λ i. command_text (command.Create relation (is.method i) (is.schema i) (is.key i)) ∷ attachments-described relation d.attachments r.attachments is.attachments i

-- ---- the relation of a name
pub shown-kept : (m : Meanings) (root : ℕ) (s : Slots) (kept : List Kept) (relation : Name) (d : Descriptor) → Tables m IsDurable root s kept →
    Some d ≡ option_map (λ k. k.descriptor) (kept_at kept relation) → Some (descriptor_lines relation d) ≡ option_map (λ r. shown relation (Some r)) (relation_at (db_of kept) relation)
shown-kept m root s kept relation d tables found = by (kept_at kept relation) refl found
  where
    by : (o : Option Kept) → kept_at kept relation ≡ o → Some d ≡ option_map (λ k. k.descriptor) o → Some (descriptor_lines relation d) ≡ option_map (λ r. shown relation (Some r)) (relation_at (db_of kept) relation)
    by None at same = absurd (cc)
    by (Some k) at same =
        let same_d : d ≡ k.descriptor = cc in
        let is = (kept_at-all (KeepsTable m IsDurable s) kept relation k tables.each at).is in
        ap (λ (x : Descriptor). Some (descriptor_lines relation x)) same_d ∙ ap Some (descriptor_lines-described relation k.descriptor k.relation is)
        ∙ sym (ap (option_map (λ (r : Relation). shown relation (Some r))) (relation_at-there kept relation k at))

pub shown-none : (kept : List Kept) (relation : Name) → None ≡ option_map (λ k. k.descriptor) (kept_at kept relation) → None ≡ option_map (λ r. shown relation (Some r)) (relation_at (db_of kept) relation)
shown-none kept relation found = by (kept_at kept relation) refl found
  where
    by : (o : Option Kept) → kept_at kept relation ≡ o → None ≡ option_map (λ k. k.descriptor) o → None ≡ option_map (λ r. shown relation (Some r)) (relation_at (db_of kept) relation)
    by None at same = sym (ap (option_map (λ (r : Relation). shown relation (Some r))) (relation_at-none kept relation at))
    by (Some k) at same = absurd (cc)
