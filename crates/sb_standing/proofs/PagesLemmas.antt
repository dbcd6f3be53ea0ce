-- What stands where the pages of other owners change.
use Rattle.std.proofs.Common.{◌≡◌, ℕ, ◌==◌, inl, inr, Bool, true, false, List, All, get_or, refl, sym, ap, subst, ◌∙◌, eqb-true}
use Rattle.std.proofs.lemmas.Bool.{eqb-false}
use Rattle.std.proofs.lemmas.List.Elements.{All-weaker}
use Rattle.sb_relation.specs.Db
use Rattle.sb_relation.specs.Db.{Rows}
use Rattle.sb_rows.specs.Pages.{Pages}
use Rattle.sb_rows.specs.Maps.{map_in}
use Rattle.sb_rows.specs.Instance.{Instance}
use Rattle.sb_rows.specs.AttachAnswers.{Holds as HoldsContent, content_over}
use Rattle.sb_rows.specs.MethodAnswers.{Holds}
use Rattle.sb_rows.specs.Boxes.{Meanings}
use Rattle.sb_rows.specs.Slots.{Slots, owned}
use Rattle.sb_rows.specs.Live.{HasRows}
use Rattle.sb_catalog.specs.declared.descriptor.Attached.{Attached}
use Rattle.sb_standing.specs.AskedLaws.{ArePages}
use Rattle.sb_standing.specs.Instances.{rule_instance}
use Rattle.sb_standing.specs.Standing.{KeepsRule, IsKept, KeepsRules, IsAmong, HasPage, Own}
use Rattle.sb_standing.specs.Tables.{Kept, KeepsOthers, KeepsTable, Tables, table_of}
use Rattle.sb_standing.proofs.OwnersLemmas.{All-among, All-from_among, among_front, AreApart-across}
use Rattle.sb_standing.proofs.SplitLemmas.{IsApart, EachRule-weaker}

-- ---- one owner's pages change
-- those of another stay, and nobody has any
pub pages-kept : (owner o : ℕ) (s t : Slots) → KeepsOthers owner s t → (o ≡ owner → o ≡ 0) → owned t o ≡ owned s o
pages-kept owner o s t keeps apart =
    elim (o == owner) as (λ b. o == owner ≡ b → owned t o ≡ owned s o) [
      | true ↦ λ same. nobodys (apart (eqb-true o owner same))
      | false ↦ λ other. keeps o (eqb-false o owner other)
    ] refl
  where
    nobodys : o ≡ 0 → owned t o ≡ owned s o
    nobodys none = subst (λ (n : ℕ). owned t n ≡ owned s n) (sym none) refl

-- ---- an instance whose pages stay
pub HasRows-pages : (m : Meanings) (s t : Slots) (inst : Instance) (rows : Rows) → owned t inst.owner ≡ owned s inst.owner → HasRows m s inst rows → HasRows m t inst rows
HasRows-pages m s t inst rows same has = record { live = has.live; holds = subst (λ (P : Pages). Holds has.live.box inst P rows) (sym same) has.holds }

pub KeepsTable-pages : (m : Meanings) (durable : ℕ → Bool) (s t : Slots) (k : Kept) → owned t k.descriptor.owner ≡ owned s k.descriptor.owner → KeepsTable m durable s k → KeepsTable m durable t k
KeepsTable-pages m durable s t k same keeps =
    record { is = keeps.is; storable = keeps.storable; named = keeps.named; wide = keeps.wide; rows = HasRows-pages m s t (table_of durable k) k.relation.rows same keeps.rows }

pub KeepsRule-pages : (m : Meanings) (s t : Slots) (inst : Instance) (a : Db.Attached) (db : Db.Db) → owned t inst.owner ≡ owned s inst.owner → KeepsRule m s inst a db → KeepsRule m t inst a db
KeepsRule-pages m s t inst a db same keeps = record {
  box = keeps.box;
  live = keeps.live;
  law = keeps.law;
  code = keeps.code;
  owner = keeps.owner;
  stands = keeps.stands;
  holds = subst (λ (P : Pages). HoldsContent keeps.box inst P (content_over keeps.box inst a.rule db a.buckets)) (sym same) keeps.holds;
}

-- an attachment that has no pages of the changed owner
pub IsKept-pages : (m : Meanings) (durable : ℕ → Bool) (owner : ℕ) (s t : Slots) (db : Db.Db) (k : Kept) (d : Attached) (a : Db.Attached) → KeepsOthers owner s t → IsApart owner d → IsKept m durable s db k d a → IsKept m durable t db k d a
IsKept-pages m durable owner s t db k d a keeps apart =
    KeepsRule-pages m s t (rule_instance (durable k.descriptor.method) k.name k.descriptor d) a db (pages-kept owner d.owner s t keeps apart)

pub KeepsRules-pages : (m : Meanings) (durable : ℕ → Bool) (owner : ℕ) (s t : Slots) (db : Db.Db) (k : Kept) → KeepsOthers owner s t → All (IsApart owner) k.descriptor.attachments → KeepsRules m durable s db k → KeepsRules m durable t db k
KeepsRules-pages m durable owner s t db k keeps apart rules =
    EachRule-weaker (IsKept m durable s db k) (IsKept m durable t db k) (IsApart owner) (λ a. Unit {0}) (λ d a is _ kept. IsKept-pages m durable owner s t db k d a keeps is kept)
    k.descriptor.attachments k.relation.attachments apart (λ i d in'. tt) rules

-- ---- the whole
pub Tables-pages : (m : Meanings) (durable : ℕ → Bool) (root : ℕ) (s t : Slots) (kept : List Kept) → owned t 2 ≡ owned s 2 → All (λ k. owned t k.descriptor.owner ≡ owned s k.descriptor.owner) kept →
    Tables m durable root s kept → Tables m durable root t kept
Tables-pages m durable root s t kept catalogue same tables = record {
  rising = tables.rising;
  catalogue = ap (map_in root) catalogue ∙ tables.catalogue;
  each = λ i d in'. KeepsTable-pages m durable s t (get_or kept i d) (same i d in') (tables.each i d in');
}

HasPage-pages : (s t : Slots) (o : ℕ) → owned t o ≡ owned s o → HasPage s o → HasPage t o
HasPage-pages s t o same (inl none) = inl none
HasPage-pages s t o same (inr (n, some)) = inr (n, λ none. some (ap (λ (P : Pages). P n) (sym same) ∙ none))

-- where an owner among them has other pages then
pub Own-others : (s t : Slots) (owners gone : List ℕ) (owner : ℕ) → IsAmong owner owners → KeepsOthers owner s t → Own s owners gone → Own t owners gone
Own-others s t owners gone owner is keeps own = record {
  apart = own.apart;
  each = own.each;
  left = All-from_among (HasPage t) gone
      (λ o among. HasPage-pages s t o (pages-kept owner o s t keeps (AreApart-across owners gone owner o own.apart is among)) (All-among (HasPage s) gone o own.left among));
  known = λ o above none n.
      ap (λ (P : Pages). P n) (keeps o (λ same. none (among_front o owners gone (subst (λ (x : ℕ). IsAmong x owners) (sym same) is)))) ∙ own.known o above none n;
}

-- ---- a call that changes nothing
pub Tables-same : (m : Meanings) (durable : ℕ → Bool) (root : ℕ) (s t : Slots) (kept : List Kept) → ArePages s t → Tables m durable root s kept → Tables m durable root t kept
Tables-same m durable root s t kept same tables = Tables-pages m durable root s t kept (same 2) (λ i d in'. same (get_or kept i d).descriptor.owner) tables

pub IsKept-same : (m : Meanings) (durable : ℕ → Bool) (s t : Slots) (db : Db.Db) (k : Kept) (d : Attached) (a : Db.Attached) → ArePages s t → IsKept m durable s db k d a → IsKept m durable t db k d a
IsKept-same m durable s t db k d a same = KeepsRule-pages m s t (rule_instance (durable k.descriptor.method) k.name k.descriptor d) a db (same d.owner)

pub KeepsRules-same : (m : Meanings) (durable : ℕ → Bool) (s t : Slots) (db : Db.Db) (k : Kept) → ArePages s t → KeepsRules m durable s db k → KeepsRules m durable t db k
KeepsRules-same m durable s t db k same rules =
    EachRule-weaker (IsKept m durable s db k) (IsKept m durable t db k) (λ d. Unit {0}) (λ a. Unit {0}) (λ d a _ _ kept. IsKept-same m durable s t db k d a same kept)
    k.descriptor.attachments k.relation.attachments (λ i d in'. tt) (λ i d in'. tt) rules

pub Own-same : (s t : Slots) (owners gone : List ℕ) → ArePages s t → Own s owners gone → Own t owners gone
Own-same s t owners gone same own = record {
  apart = own.apart;
  each = own.each;
  left = All-weaker (HasPage s) (HasPage t) (λ o has. HasPage-pages s t o (same o) has) gone own.left;
  known = λ o above none n. ap (λ (P : Pages). P n) (same o) ∙ own.known o above none n;
}
