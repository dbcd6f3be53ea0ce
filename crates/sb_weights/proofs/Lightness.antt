-- The relations of a store that keeps a database are light.
use Rattle.std.proofs.Common.{◌≡◌, ℕ, ◌≤◌, Bool, true, false, sym, arith}
use Rattle.sb_relation.specs.Db
use Rattle.sb_fold.specs.Extensions.{Extensions, is_durable_method}
use Rattle.sb_fold.specs.Need.{rule_weight}
use Rattle.sb_fold.specs.Outcome.{Reached}
use Rattle.sb_forms.specs.Pages.{ArePages, page_count}
use Rattle.sb_ctx.specs.declared.instance.Instance.{Instance}
use Rattle.sb_registry.specs.Boxes.{Meanings}
use Rattle.sb_drive.specs.Slots.{Slots, owned}
use Rattle.sb_standing.specs.Standing.{EachRule, IsKept, KeepsRule, KeepsRules, has_no_join, is_join}
use Rattle.sb_standing.specs.Tables.{Kept, KeepsTable, table_of}
use Rattle.sb_standing.proofs.SplitLemmas.{EachRule-weaker, no_joins}
use Rattle.sb_weights.proofs.Bounded.{AreBounded}
use Rattle.sb_weights.proofs.Weighing.{Grows, IsLight, IsLightRule, bound_grows, row_pages, rule_pages, weight_is}

-- ---- an attachment
-- over the database before, in as many buckets or in more
pub light_before : (m : Meanings) (ext : Extensions) (at : Reached) (s : Slots) (inst : Instance) (a : Db.Attached) (more : ℕ) → AreBounded m ext
    → ArePages (owned s inst.owner) → is_join a.rule ≡ false → Grows a.rule a.buckets more → KeepsRule m s inst a at.before
    → page_count (owned s inst.owner) ≤ rule_weight ext at inst.relation (record a { buckets = more }) a.rule
light_before m ext at s inst a more bounded are none grows kept =
    let pages = rule_pages m ext s inst a at.before bounded are none kept in
    let bound = bound_grows ext at.before inst.relation a.rule a.buckets more grows in
    omega (arith, pages, bound, weight_is ext at inst.relation (record a { buckets = more }) a.rule none)

-- over the database behind
pub light_after : (m : Meanings) (ext : Extensions) (at : Reached) (s : Slots) (inst : Instance) (a : Db.Attached) → AreBounded m ext
    → ArePages (owned s inst.owner) → is_join a.rule ≡ false → KeepsRule m s inst a at.after
    → page_count (owned s inst.owner) ≤ rule_weight ext at inst.relation a a.rule
light_after m ext at s inst a bounded are none kept =
    omega (arith, rule_pages m ext s inst a at.after bounded are none kept, weight_is ext at inst.relation a a.rule none)

-- ---- a relation
-- what a law says of each relation that is kept
pub record IsPlain (ext : Extensions) (k : Kept) : Type 0 where
  pub meant : is_durable_method ext k.relation.method ≡ true
  pub joinless : has_no_join k ≡ true

pub light_table : (m : Meanings) (ext : Extensions) (durable : ℕ → Bool) (at : Reached) (s : Slots) (k : Kept) → AreBounded m ext
    → ((o : ℕ) → ArePages (owned s o)) → is_durable_method ext k.relation.method ≡ true → KeepsTable m durable s k
    → EachRule (IsLightRule ext at s k.name) k.descriptor.attachments k.relation.attachments → IsLight ext at s 0 k
light_table m ext durable at s k bounded are meant table rules =
    let pages = row_pages m ext s (table_of durable k) k.relation bounded (are k.descriptor.owner) (sym table.is.method) table.rows in
    record { meant = meant; rows = omega (arith, pages); rules = rules }

-- its attachments are kept over the database before, and weigh as much with any buckets that are no fewer
pub rules_before : (m : Meanings) (ext : Extensions) (durable : ℕ → Bool) (at : Reached) (s : Slots) (k : Kept) (more : Db.Attached → ℕ)
    → AreBounded m ext → ((o : ℕ) → ArePages (owned s o)) → ((a : Db.Attached) → Grows a.rule a.buckets (more a)) → has_no_join k ≡ true
    → KeepsRules m durable s at.before k
    → EachRule (λ d a. IsLightRule ext at s k.name d (record a { buckets = more a })) k.descriptor.attachments k.relation.attachments
rules_before m ext durable at s k more bounded are grows joinless rules =
    EachRule-weaker (IsKept m durable s at.before k) (λ d a. IsLightRule ext at s k.name d (record a { buckets = more a })) (λ d. Unit {0})
    (λ a. is_join a.rule ≡ false)
    (λ d a _ none kept. light_before m ext at s _ a (more a) bounded (are d.owner) none (grows a) kept)
    k.descriptor.attachments k.relation.attachments (λ i d in'. tt) (no_joins k.relation.attachments joinless) rules

-- or over the database behind
pub rules_after : (m : Meanings) (ext : Extensions) (durable : ℕ → Bool) (at : Reached) (s : Slots) (k : Kept) → AreBounded m ext
    → ((o : ℕ) → ArePages (owned s o)) → has_no_join k ≡ true → KeepsRules m durable s at.after k
    → EachRule (IsLightRule ext at s k.name) k.descriptor.attachments k.relation.attachments
rules_after m ext durable at s k bounded are joinless rules =
    EachRule-weaker (IsKept m durable s at.after k) (IsLightRule ext at s k.name) (λ d. Unit {0}) (λ a. is_join a.rule ≡ false)
    (λ d a _ none kept. light_after m ext at s _ a bounded (are d.owner) none kept)
    k.descriptor.attachments k.relation.attachments (λ i d in'. tt) (no_joins k.relation.attachments joinless) rules
