-- The laws: at rest, where no page is left, and in a change.
use Rattle.std.proofs.Common.{◌≡◌, ℕ, Bool, true, List, get_or, All, arith}
use Rattle.std.proofs.lemmas.List.Elements.{All-weaker}
use Rattle.sb_fold.specs.Extensions.{Extensions}
use Rattle.sb_fold.specs.Outcome.{Gone}
use Rattle.sb_forms.specs.Pages.{ArePages}
use Rattle.sb_registry.specs.Boxes.{Meanings}
use Rattle.sb_drive.specs.Slots.{Slots, owned}
use Rattle.sb_standing.specs.Standing.{KeepsRules, has_no_join}
use Rattle.sb_standing.specs.Tables.{Kept, KeepsTable, db_of}
use Rattle.sb_weights.specs.Rooms.{extensions_of}
use Rattle.sb_weights.specs.Weights.{AreMeant, RestIsWithin, resting}
use Rattle.sb_weights.proofs.Bounded.{AreBounded, are-bounded}
use Rattle.sb_weights.proofs.Catalogue.{catalogue_small}
use Rattle.sb_weights.proofs.Lightness.{light_table, rules_after}
use Rattle.sb_weights.proofs.Summing.{weighed_sum, weighed_within}
use Rattle.sb_weights.proofs.Weighing.{IsLight, Weighs, light_weighs}

-- ---- at rest
pub light_rest : (m : Meanings) (ext : Extensions) (durable : ℕ → Bool) (s : Slots) (kept : List Kept) (aside : Gone) (spent : ℕ) → AreBounded m ext
    → AreMeant ext kept → ((o : ℕ) → ArePages (owned s o)) → All (KeepsTable m durable s) kept → All (KeepsRules m durable s (db_of kept)) kept
    → All (λ k. has_no_join k ≡ true) kept → All (IsLight ext (resting (db_of kept) aside spent) s 0) kept
light_rest m ext durable s kept aside spent bounded meant are tables rules joinless = λ i d in'.
    let at = resting (db_of kept) aside spent in
    light_table m ext durable at s (get_or kept i d) bounded are (meant i d in') (tables i d in')
    (rules_after m ext durable at s (get_or kept i d) bounded are (joinless i d in') (rules i d in'))

pub rest-is-within : RestIsWithin
rest-is-within m durable root s gone kept aside spent meant are keeps few =
    let ext = extensions_of m in
    let at = resting (db_of kept) aside spent in
    let light = light_rest m ext durable s kept aside spent (are-bounded m) meant are keeps.tables.each keeps.rules keeps.joinless in
    let weigh = All-weaker (IsLight ext at s 0) (Weighs ext at s 0) (light_weighs ext at s 0) kept light in
    let each = weighed_sum ext at s kept weigh in
    let within = weighed_within ext at s 0 gone kept
    (record { catalogue = catalogue_small m durable root s kept keeps.tables; each = omega (arith, each); aside = few }) in
    omega (arith, within)
