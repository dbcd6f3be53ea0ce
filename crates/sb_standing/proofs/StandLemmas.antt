-- Rules that are kept stand, whatever their pages hold.
use Rattle.std.proofs.Common.{◌≡◌, ℕ, zero, suc, Bool, true, false, cond, T, List, [], ◌∷◌, All, bytes_eq, refl, sym, subst}
use Rattle.std.specs.FinMap.Entries.{is_sorted}
use Rattle.std.proofs.lemmas.List.Elements.{All-weaker, All-map}
use Rattle.sb_value.specs.Order.{bytes_cmp}
use Rattle.sb_rule.specs.declared.change.Change.{Change}
use Rattle.sb_relation.specs.Buckets.{grown}
use Rattle.sb_relation.specs.Changes.{changed, changed_rows}
use Rattle.sb_relation.specs.Db
use Rattle.sb_relation.specs.Db.{Name}
use Rattle.sb_rows.specs.Instance.{Instance}
use Rattle.sb_rows.specs.Attachment.{AreLawful}
use Rattle.sb_rows.specs.Boxes.{Meanings}
use Rattle.sb_rows.specs.Slots.{Slots}
use Rattle.sb_catalog.specs.declared.descriptor.Attached.{Attached}
use Rattle.sb_standing.specs.Instances.{rule_instance}
use Rattle.sb_standing.specs.Tables.{Kept, db_of}
use Rattle.sb_standing.specs.Standing.{EachRule, IsKept, Keeps, KeepsRule, KeepsRules, StandRules, StandsRule}
use Rattle.sb_standing.specs.Asked.{Asks, AsksRules, AsksRulesIf, IsKeptAfter, SplitRules, change_kept, changed_kept}
use Rattle.sb_standing.proofs.ChangedLemmas.{StandsOn-changed}
use Rattle.sb_standing.proofs.KeptChangedLemmas.{db_of-changed, rising-before, with_changed}
use Rattle.sb_standing.proofs.LawfulLemmas.{AreLawful-tables}
use Rattle.sb_standing.proofs.SplitLemmas.{EachRule-map, EachRule-weaker, SplitRules-weaker}

-- ---- one rule
pub StandsRule-kept : (m : Meanings) (s : Slots) (inst : Instance) (a : Db.Attached) (db : Db.Db) → KeepsRule m s inst a db → StandsRule m inst a db
StandsRule-kept m s inst a db kept = record { box = kept.box; live = kept.live; law = kept.law; code = kept.code; owner = kept.owner; stands = kept.stands }

-- one that was kept over the database before stands on the changed one
pub StandsRule-changed : (m : Meanings) (s : Slots) (inst : Instance) (a grown : Db.Attached) (db : Db.Db) (name : Name) (c : Change) → grown.rule ≡ a.rule → AreLawful (changed db name c) → KeepsRule m s inst a db →
    StandsRule m inst grown (changed db name c)
StandsRule-changed m s inst a grown db name c same lawful kept = record {
  box = kept.box;
  live = kept.live;
  law = kept.law;
  code = kept.code;
  owner = kept.owner;
  stands = StandsOn-changed kept.box inst grown.rule db name c (rw (← same) at kept.stands) lawful;
}

-- ---- those of a relation
-- an attachment of a relation stands on the database
abbrev pub Stands : Meanings → (ℕ → Bool) → Db.Db → Kept → Attached → Db.Attached → Type 0
Stands m durable db k d a = StandsRule m (rule_instance (durable k.descriptor.method) k.name k.descriptor d) a db

abbrev pub EachStands : Meanings → (ℕ → Bool) → Db.Db → Kept → Type 0
EachStands m durable db k = EachRule (Stands m durable db k) k.descriptor.attachments k.relation.attachments

pub EachStands-kept : (m : Meanings) (durable : ℕ → Bool) (s : Slots) (db : Db.Db) (k : Kept) → KeepsRules m durable s db k → EachStands m durable db k
EachStands-kept m durable s db k rules =
    EachRule-weaker (IsKept m durable s db k) (Stands m durable db k) (λ d. Unit {0}) (λ a. Unit {0})
    (λ d a _ _ kept. StandsRule-kept m s (rule_instance (durable k.descriptor.method) k.name k.descriptor d) a db kept)
    k.descriptor.attachments k.relation.attachments (λ i d in'. tt) (λ i d in'. tt) rules

-- what is so of the first ones and of those behind is so of each
pub EachRule-split : (P : Attached → Db.Attached → Type 0) (i : ℕ) (ds : List Attached) (others : List Db.Attached) → SplitRules P P i ds others → EachRule P ds others
EachRule-split P zero ds others split = split
EachRule-split P (suc i) [] [] split = tt
EachRule-split P (suc i) (d ∷ ds) [] split = absurd split
EachRule-split P (suc i) [] (a ∷ others) split = absurd split
EachRule-split P (suc i) (d ∷ ds) (a ∷ others) split = (split.0, EachRule-split P i ds others split.1)

-- ---- those of a store
pub StandRules-keeps : (m : Meanings) (durable : ℕ → Bool) (root : ℕ) (s : Slots) (gone : List ℕ) (kept : List Kept) → Keeps m durable root s gone kept → StandRules m durable (db_of kept) kept
StandRules-keeps m durable root s gone kept keeps =
    All-weaker (KeepsRules m durable s (db_of kept)) (EachStands m durable (db_of kept)) (λ k rules. EachStands-kept m durable s (db_of kept) k rules) kept keeps.rules

-- the same while a change is asked
pub StandRules-asks : (m : Meanings) (durable : ℕ → Bool) (root : ℕ) (s : Slots) (gone : List ℕ) (before : List Kept) (name : Name) (c : Change) (i : ℕ) → Asks m durable root s gone before name c i →
    StandRules m durable (db_of (changed_kept name c before)) (changed_kept name c before)
StandRules-asks m durable root s gone before name c i asks =
    subst (λ (d : Db.Db). All (EachStands m durable d) (changed_kept name c before)) (sym (db_of-changed name c before rising))
    (All-map (EachStands m durable after) (change_kept name c) before
    (All-weaker (AsksRules m durable s db name c i) (λ x. EachStands m durable after (change_kept name c x)) (λ x rules. of x (bytes_eq x.name name) rules) before asks.rules))
  where
    db : Db.Db
    db = db_of before

    after : Db.Db
    after = changed db name c

    rising : T (is_sorted bytes_cmp db)
    rising = rising-before name c before asks.tables.rising

    lawful : AreLawful after
    lawful = subst AreLawful (db_of-changed name c before rising) (AreLawful-tables m durable root s (changed_kept name c before) asks.tables)

    asked : (x : Kept) → AsksRulesIf true m durable s db after c i x → EachStands m durable after (with_changed c x)
    asked x rules =
        let grow = grown c (changed_rows x.relation.rows c) in
        EachRule-map (Stands m durable after x) grow x.descriptor.attachments x.relation.attachments
        (EachRule-split (λ d a. Stands m durable after x d (grow a)) i x.descriptor.attachments x.relation.attachments
        (SplitRules-weaker (IsKeptAfter m durable s after c x) (IsKept m durable s db x) (λ d a. Stands m durable after x d (grow a)) (λ d a. Stands m durable after x d (grow a)) (λ d. Unit {0})
        (λ d a _ kept. StandsRule-kept m s (rule_instance (durable x.descriptor.method) x.name x.descriptor d) (grow a) after kept)
        (λ d a _ kept. StandsRule-changed m s (rule_instance (durable x.descriptor.method) x.name x.descriptor d) a (grow a) db name c refl lawful kept)
        i x.descriptor.attachments x.relation.attachments (λ j d in'. tt) rules))

    of : (x : Kept) (b : Bool) → AsksRulesIf b m durable s db after c i x → EachStands m durable after (cond b (with_changed c x) x)
    of x true rules = asked x rules
    of x false rules = EachStands-kept m durable s after x rules
