-- The most pages of a content that is built, and calls for which no more are left.
use Rattle.std.proofs.Common.{◌≡◌, ℕ, ◌+◌, ◌≤◌, ◌==◌, max, false, cond, [], ◌∷◌, ◌++◌, sym, ap, ◌∙◌, arith}
use Rattle.sb_rule.specs.declared.rule.Rule.{Rule}
use Rattle.sb_relation.specs.Buckets.{standing_buckets}
use Rattle.sb_relation.specs.Content.{Content}
use Rattle.sb_relation.specs.Db.{Key, Row, Rows, Db, with_rows}
use Rattle.sb_forms.specs.Pages.{ArePages, page_count}
use Rattle.sb_ctx.specs.declared.calls.AttachCall.{AttachCall}
use Rattle.sb_ctx.specs.declared.calls.AttachCall.TheVariants.{Prepare, Build}
use Rattle.sb_ctx.specs.declared.instance.Instance.{Instance}
use Rattle.sb_ctx.specs.Attachment.{StandsOn}
use Rattle.sb_ctx.specs.AttachAnswers.{Holds, content_with, first_content, most_pages}
use Rattle.sb_registry.specs.Boxes.{Meanings}
use Rattle.sb_registry.specs.Live.{IsLiveRule}
use Rattle.sb_drive.specs.Slots.{Slots, owned}
use Rattle.sb_drive.specs.Spaces.{Wanted}
use Rattle.sb_standing.specs.Lacking.{IsShort}
use Rattle.sb_standing.specs.Standing.{is_join}
use Rattle.sb_standing.specs.Tables.{db_of}
use Rattle.sb_tables.specs.Calls.{LacksOver}
use Rattle.sb_tables.specs.Working.{extensions_of}
use Rattle.sb_tables.proofs.Bounded.{are-bounded, joinless-code}
use Rattle.sb_building.specs.Building.{HoldsBuilt, IsNext, content_built}
use Rattle.sb_building.specs.Instances.{HasNewPages, IsSite, Site}
use Rattle.sb_building.specs.Lacking.{bound_over, bound_with}
use Rattle.sb_building.proofs.ContentLemmas.{content-first, content-next}
use Rattle.sb_building.proofs.SiteLemmas.{BeforeBuild-site, rows_are}

-- ---- contents
module _ (m : Meanings) (inst : Instance) (live : IsLiveRule m inst) (rule : Rule) (db : Db) (stands : StandsOn live.box inst rule db) (joinless : is_join rule ≡ false) where
  -- what the box says that it takes is within the definition's numbers
  pub bound-built : (built : Rows) → live.box.bound (content_built live.box inst rule db built) ≤ bound_over (extensions_of m) db inst.relation rule built
  unfolding content_built
  bound-built built =
      (are-bounded m).attachments inst.code live.box live.live live.law (with_rows db inst.relation built) inst.relation rule (standing_buckets rule built)
      (sym (live.may.code ∙ stands.spelled.coded)) stands.spelled.limited joinless

  -- so are the pages that hold it
  pub pages-built : (s : Slots) (built : Rows) → ArePages (owned s inst.owner) → Holds live.box inst (owned s inst.owner) (content_built live.box inst rule db built)
      → page_count (owned s inst.owner) ≤ bound_over (extensions_of m) db inst.relation rule built
  pages-built s built pages holds =
      omega (arith, (live.law.formed inst (owned s inst.owner) (content_built live.box inst rule db built) holds).bound pages, bound-built built)

  -- a call takes the greater one of what two contents take
  most-joinless : (call : AttachCall) (before after : Content) → most_pages live.box call before after ≡ max (live.box.bound before) (live.box.bound after)
  most-joinless call before after =
      ap (λ b. cond b (live.box.bound before + live.box.cost call before after) (max (live.box.bound before) (live.box.bound after)))
      (ap (λ n. n == 3) stands.spelled.coded ∙ joinless-code rule joinless stands.spelled.limited)

-- ---- calls for which no page is left
module _ {S : Type 0} (Has : Wanted → Slots → S → Type 0) (m : Meanings) (root : ℕ) (x : Site) (inst : Instance) (rule : Rule) (live : IsLiveRule m inst) (space : S) (site : IsSite Has m root x inst rule live.box space)
    (joinless : is_join rule ≡ false) where
  -- that which prepares it
  pub short-prepared : HasNewPages x live.box inst → (total : ℕ) → LacksOver live.box inst Prepare (db_of x.kept) x.slots total
      → IsShort x.slots inst.owner (bound_over (extensions_of m) (db_of x.kept) inst.relation rule []) total
  short-prepared new total lack =
      let db = db_of x.kept in
      let first = first_content live.box inst rule db in
      let costs = lack.spends new rule db site.stands in
      record {
        ctx = lack.ctx;
        used = lack.used;
        within = omega (
          arith,
          costs.room,
          most-joinless m inst live rule db site.stands joinless Prepare first first,
          ap live.box.bound (content-first live.box inst rule db joinless),
          bound-built m inst live rule db site.stands joinless [],
        );
      }

  -- and that which builds the next row
  pub short-row : (built : Rows) (row : Key × Row) → IsNext x.one.relation.rows built row → HoldsBuilt x live.box inst rule built
      → (total : ℕ) → LacksOver live.box inst (Build row.0 row.1) (db_of x.kept) x.slots total
      → IsShort x.slots inst.owner (bound_with (extensions_of m) (db_of x.kept) inst.relation rule built row) total
  unfolding content_built
  short-row built row next over total lack =
      let db = db_of x.kept in
      let old = content_built live.box inst rule db built in
      let more = content_with live.box inst rule db built (standing_buckets rule built) row.0 row.1 in
      let before = BeforeBuild-site Has m root x inst rule live.box space built row lack.view site next over lack.found in
      let costs = lack.spends rule db site.stands built (standing_buckets rule built) before in
      record {
        ctx = lack.ctx;
        used = lack.used;
        within = omega (
          arith,
          costs.room,
          most-joinless m inst live rule db site.stands joinless (Build row.0 row.1) old more,
          ap live.box.bound (content-next live.box inst rule db inst.schema x.one.relation.rows built row (rows_are Has m root x inst rule live.box space site) next),
          bound-built m inst live rule db site.stands joinless built,
          bound-built m inst live rule db site.stands joinless (built ++ row ∷ []),
        );
      }
