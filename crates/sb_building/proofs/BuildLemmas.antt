-- A content that is built row by row, so far.
use Rattle.std.proofs.Common.{◌≡◌, inr, ℕ, ◌+◌, ◌≤◌, ◌^◌, Bool, true, false, true≢false, ◌&&◌, ◌||◌, List, [], ◌∷◌, ◌++◌, T, Option, Some, None, append_assoc, refl, sym, ap, subst, ◌∙◌, arith}
use Rattle.std.specs.FinMap.Entries.{is_sorted}
use Rattle.std.specs.List.{list_any}
use Rattle.std.proofs.lemmas.List.Folds.{list_any-append}
use Rattle.sb_value.specs.declared.schema.Column.{Column}
use Rattle.sb_value.specs.Order.{bytes_cmp}
use Rattle.sb_rule.specs.declared.rule.Rule.{Rule}
use Rattle.sb_relation.specs.Db.{Key, Name, Row, Rows}
use Rattle.sb_relation.specs.Lawful.{is_long_for}
use Rattle.sb_fold.specs.Extensions.{Extensions}
use Rattle.sb_ctx.specs.declared.instance.Instance.{Instance}
use Rattle.sb_ctx.specs.Attachment.{Attachment}
use Rattle.sb_ctx.specs.AttachAnswers.{Holds}
use Rattle.sb_ctx.specs.MethodAnswers.{row_above}
use Rattle.sb_registry.specs.Boxes.{Meanings}
use Rattle.sb_drive.specs.declared.space.SpaceFault.{SpaceFault}
use Rattle.sb_drive.specs.Slots.{Slots, owned}
use Rattle.sb_drive.specs.Spaces.{Leaves, LeadsOn, LeadsWithin, Wanted}
use Rattle.sb_drive.proofs.SpacesLemmas.{GoesOn, LeadsWithin-more, LeadsWithin-none}
use Rattle.sb_rows.specs.Live.{HasRows}
use Rattle.sb_rows.specs.Scans.{rows_above}
use Rattle.sb_rows.proofs.ScansLemmas.{rows_above-all, rows_above-next}
use Rattle.sb_standing.specs.Lacking.{IsShort, WhereShort}
use Rattle.sb_standing.specs.Tables.{KeepsOthers, db_of, table_of}
use Rattle.sb_tables.specs.Opened.{IsDurable}
use Rattle.sb_tables.specs.Working.{extensions_of}
use Rattle.sb_tables.proofs.SpendingLemmas.{within_then}
use Rattle.sb_building.specs.Attaching.{HasBegun}
use Rattle.sb_building.specs.Building.{HasNoLong, HoldsBuilt, IsBuilt, IsBuiltOver, IsNext, content_built}
use Rattle.sb_building.specs.Costs.{rest_cost, row_cost, rows_cost}
use Rattle.sb_building.specs.Held.{holds_of}
use Rattle.sb_building.specs.Instances.{IsSite, Site}
use Rattle.sb_building.specs.Lacking.{IsShortBuilding, bound_with}
use Rattle.sb_building.proofs.ContentLemmas.{IsOver-next}
use Rattle.sb_building.proofs.HeldLemmas.{IsOver, holds_of-more, holds_of-none, holds_of-vetoed}
use Rattle.sb_building.proofs.LackingLemmas.{short_own}
use Rattle.sb_building.proofs.RowsLemmas.{IsNext-read, IsRead, IsRead-all, IsRead-few, IsRead-next, IsRead-none}
use Rattle.sb_building.proofs.SiteLemmas.{IsSite-on, relation_there, rows_are, rows_there, table_there}

-- the rows up to a key are built and admitted, and the pages hold the content over them
pub record IsBuildingUp {S : Type 0} (Has : Wanted → Slots → S → Type 0) (m : Meanings) (root : ℕ) (x : Site) (inst : Instance) (rule : Rule) (box : Attachment) (last : Option Key) (count : ℕ) (space : S) : Type 0 where
  pub slots : Slots
  pub built : Rows
  pub site : IsSite Has m root (record x { slots = slots }) inst rule box space
  pub others : KeepsOthers inst.owner x.slots slots
  pub read : IsRead x.one.relation.rows built last count
  pub held : holds_of (Some box.rules) (db_of x.kept) inst.relation rule built ≡ true
  pub content : Holds box inst (owned slots inst.owner) (content_built box inst rule (db_of x.kept) built)

-- what was led from the first space on costs, with the rows that are left, what all rows cost
pub record HasLed {S : Type 0} (Leads : ℕ → S → S → Type 0) (ext : Extensions) (x : Site) (name : Name) (rule : Rule) (built : Rows) (last : Option Key) (first space : S) : Type 0 where
  pub done : ℕ
  pub leads : LeadsWithin Leads done first space
  pub left : done + rest_cost ext (db_of x.kept) name rule built (rows_above last x.one.relation.rows) ≡ rows_cost ext (db_of x.kept) name rule x.one.relation.rows

-- so far, with what it has cost
pub record IsPaidUp {S : Type 0} (Has : Wanted → Slots → S → Type 0) (Leads : ℕ → S → S → Type 0) (m : Meanings) (root : ℕ) (x : Site) (inst : Instance) (rule : Rule) (box : Attachment) (last : Option Key) (count : ℕ) (first space : S) : Type 0 where
  pub up : IsBuildingUp Has m root x inst rule box last count space
  pub led : HasLed Leads (extensions_of m) x inst.relation rule up.built last first space

never_long : (a b c : Bool) → b ≡ true → (a || (b || c)) ≡ false → ⊥
never_long true b c for_it against = absurd (cc)
never_long false true c for_it against = absurd (cc)
never_long false false c for_it against = absurd (cc)

module _ {S : Type 0} (Has : Wanted → Slots → S → Type 0) (m : Meanings) (root : ℕ) (x : Site) (inst : Instance) (rule : Rule) (box : Attachment) where
  pub building-none : (space : S) → IsSite Has m root x inst rule box space → HoldsBuilt x box inst rule [] → IsBuildingUp Has m root x inst rule box None 0 space
  building-none space site over = record {
    slots = x.slots;
    built = [];
    site = site;
    others = λ o other. refl;
    read = IsRead-none x.one.relation.rows;
    held = holds_of-none (Some box.rules) (db_of x.kept) inst.relation rule;
    content = over;
  }

  -- a call that looks leaves it
  pub building-later : (last : Option Key) (count : ℕ) (old new : S) → ((want : Wanted) (s : Slots) → Has want s old → Has want s new) → IsBuildingUp Has m root x inst rule box last count old
      → IsBuildingUp Has m root x inst rule box last count new
  building-later last count old new later up = record {
    slots = up.slots;
    built = up.built;
    site = record { has = later x.want up.slots up.site.has; tables = up.site.tables; stand = up.site.stand; there = up.site.there; stands = up.site.stands; apart = up.site.apart };
    others = up.others;
    read = up.read;
    held = up.held;
    content = up.content;
  }

  module _ (last : Option Key) (count : ℕ) (space : S) (up : IsBuildingUp Has m root x inst rule box last count space) where
    abbrev here : Site
    here = record x { slots = up.slots }

    -- the rows of the relation
    pub rows_of_it : HasRows m up.slots (table_of IsDurable x.one) x.one.relation.rows
    rows_of_it = (table_there Has m root here inst rule box space up.site).rows

    rising : T (is_sorted bytes_cmp x.one.relation.rows)
    rising = (rows_are Has m root here inst rule box space up.site).rising

    -- the next one
    pub next_of : (row : Key × Row) → row_above last x.one.relation.rows ≡ Some row → IsNext x.one.relation.rows up.built row
    next_of row is = IsNext-read x.one.relation.rows up.built last count row rising is up.read

    over_next : (row : Key × Row) → row_above last x.one.relation.rows ≡ Some row → IsOver (db_of x.kept) inst.relation up.built row
    over_next row is = IsOver-next (db_of x.kept) inst.relation x.one.relation inst.schema up.built row (relation_there Has m root here inst rule box space up.site) (rows_are Has m root here inst rule box space up.site) (next_of row is)

    -- no row of it is too long
    pub not_long : (row : Key × Row) (schema : List Column) → schema ≡ x.one.descriptor.schema → row_above last x.one.relation.rows ≡ Some row → is_long_for schema row.1 rule ≡ true → HasNoLong x rule → ⊥
    not_long row schema same is long none =
        let next = next_of row is in
        let test : Key × Row → Bool = λ r. is_long_for x.one.descriptor.schema r.1 rule in
        never_long (list_any test up.built) (test row) (list_any test next.rest) (ap (λ (c : List Column). is_long_for c row.1 rule) (sym same) ∙ long)
        (sym (list_any-append test up.built (row ∷ next.rest)) ∙ ap (list_any test) (sym next.split) ∙ none)

    -- with one more
    pub building-next : (row : Key × Row) (new : S) → row_above last x.one.relation.rows ≡ Some row
        → Leaves Has inst.owner x.want up.slots new (IsBuilt box inst rule (db_of x.kept) up.built row true) → IsBuildingUp Has m root x inst rule box (Some row.0) (count + 1) new
    building-next row new is left = record {
      slots = left.slots;
      built = up.built ++ row ∷ [];
      site = IsSite-on Has m root here inst rule box space new left.slots up.site left.has left.others;
      others = λ o other. left.others o other ∙ up.others o other;
      read = IsRead-next x.one.relation.rows up.built last count row rising is up.read;
      held = holds_of-more box inst rule (db_of x.kept) up.built row (over_next row is) ∙ (λ i. up.held i && sym left.own.says i);
      content = left.own.keeps refl;
    }

    -- one that isn't admitted
    pub building-vetoed : (row : Key × Row) (new : S) → row_above last x.one.relation.rows ≡ Some row → Leaves Has inst.owner x.want up.slots new (IsBuilt box inst rule (db_of x.kept) up.built row false)
        → Leaves Has inst.owner x.want x.slots new (IsBuiltOver box inst rule (db_of x.kept) x.one.relation.rows false)
    building-vetoed row new is left = record {
      slots = left.slots;
      has = left.has;
      others = λ o other. left.others o other ∙ up.others o other;
      own = record {
        says =
            let next = next_of row is in
            sym (ap (holds_of (Some box.rules) (db_of x.kept) inst.relation rule) (next.split ∙ sym (append_assoc up.built (row ∷ []) next.rest))
            ∙ holds_of-vetoed box inst rule (db_of x.kept) up.built next.rest row (over_next row is) (sym left.own.says));
        keeps = λ for_it. absurd (true≢false (sym for_it));
      };
    }

    -- all rows
    pub building-all : row_above last x.one.relation.rows ≡ None → Leaves Has inst.owner x.want x.slots space (IsBuiltOver box inst rule (db_of x.kept) x.one.relation.rows true)
    building-all is =
        let all = IsRead-all x.one.relation.rows up.built last count is up.read in
        record {
          slots = up.slots;
          has = up.site.has;
          others = up.others;
          own = record {
            says = sym (ap (holds_of (Some box.rules) (db_of x.kept) inst.relation rule) (sym all) ∙ up.held);
            keeps = λ for_it. subst (λ (rows : Rows). Holds box inst (owned up.slots inst.owner) (content_built box inst rule (db_of x.kept) rows)) all up.content;
          };
        }

    -- no more rows than there are
    pub building-few : 2 ^ 48 ≤ count → ⊥
    building-few many = IsRead-few x.one.relation.rows up.built last count (2 ^ 48) (rows_are Has m root here inst rule box space up.site).few many up.read

-- ---- what it costs
module _ {S : Type 0} (Has : Wanted → Slots → S → Type 0) (Leads : ℕ → S → S → Type 0) (goes_on : GoesOn Leads) (m : Meanings) (root : ℕ) (x : Site) (inst : Instance) (rule : Rule) (box : Attachment) where
  -- the most that all rows cost
  abbrev most : ℕ
  most = rows_cost (extensions_of m) (db_of x.kept) inst.relation rule x.one.relation.rows

  -- what one row costs, and those behind it
  abbrev of_row : Rows → Key × Row → ℕ
  of_row built row = row_cost (extensions_of m) (db_of x.kept) inst.relation rule built row

  abbrev of_rest : Rows → Rows → ℕ
  of_rest built rows = rest_cost (extensions_of m) (db_of x.kept) inst.relation rule built rows

  pub paid-none : (space : S) → IsSite Has m root x inst rule box space → HoldsBuilt x box inst rule [] → Leads 0 space space → IsPaidUp Has Leads m root x inst rule box None 0 space space
  unfolding building-none
  paid-none space site over stays = record {
    up = building-none Has m root x inst rule box space site over;
    led = record {
      done = 0;
      leads = LeadsWithin-none Leads 0 space space stays;
      left = omega (arith, ap (of_rest []) (rows_above-all x.one.relation.rows));
    };
  }

  module _ (last : Option Key) (count : ℕ) (first old : S) (paid : IsPaidUp Has Leads m root x inst rule box last count first old) where
    -- it costs no more than all rows
    pub paid-all : LeadsWithin Leads most first old
    paid-all = LeadsWithin-more Leads paid.led.done most first old (omega (arith, paid.led.left)) paid.led.leads

    -- a call that looks costs nothing
    pub paid-looking : (new : S) → Leads 0 old new → LeadsWithin Leads most first new
    paid-looking new looks = within_then Leads goes_on paid.led.done 0 most first old new (omega (arith, paid.led.left)) paid.led.leads (LeadsWithin-none Leads 0 old new looks)

    pub paid-later : (new : S) → ((want : Wanted) (s : Slots) → Has want s old → Has want s new) → Leads 0 old new → IsPaidUp Has Leads m root x inst rule box last count first new
    unfolding building-later
    paid-later new later looks = record {
      up = building-later Has m root x inst rule box last count old new later paid.up;
      led = record {
        done = paid.led.done;
        leads = within_then Leads goes_on paid.led.done 0 paid.led.done first old new (omega arith) paid.led.leads (LeadsWithin-none Leads 0 old new looks);
        left = paid.led.left;
      };
    }

    module _ (row : Key × Row) (new : S) (is : row_above last x.one.relation.rows ≡ Some row) (costs : LeadsWithin Leads (of_row paid.up.built row) old new) where
      -- the next row is one of those that are left
      left_with : paid.led.done + (of_row paid.up.built row + of_rest (paid.up.built ++ row ∷ []) (rows_above (Some row.0) x.one.relation.rows)) ≡ most
      left_with =
          omega (
            arith,
            paid.led.left,
            ap (of_rest paid.up.built) (rows_above-next last x.one.relation.rows row (rising Has m root x inst rule box last count old paid.up) is),
          )

      -- what it costs is within what all rows cost
      pub paid-row : LeadsWithin Leads most first new
      paid-row = within_then Leads goes_on paid.led.done (of_row paid.up.built row) most first old new (omega (arith, left_with)) paid.led.leads costs

      -- with one more
      pub paid-next : Leaves Has inst.owner x.want paid.up.slots new (IsBuilt box inst rule (db_of x.kept) paid.up.built row true) → IsPaidUp Has Leads m root x inst rule box (Some row.0) (count + 1) first new
      unfolding building-next
      paid-next left = record {
        up = building-next Has m root x inst rule box last count old paid.up row new is left;
        led = record {
          done = paid.led.done + of_row paid.up.built row;
          leads = within_then Leads goes_on paid.led.done (of_row paid.up.built row) (paid.led.done + of_row paid.up.built row) first old new (omega arith) paid.led.leads costs;
          left = omega (arith, left_with);
        };
      }

-- ---- want of a page
-- where no page is left for the next row, none is left beside the owner that has come
pub building-short : {S : Type 0} (Has : Wanted → Slots → S → Type 0) (Leads : ℕ → S → S → Type 0) (m : Meanings) (root : ℕ) (x : Site) (inst : Instance) (rule : Rule) (box : Attachment) (old : S)
    → (begun : HasBegun Has m root x inst rule box old) → (last : Option Key) (count : ℕ) (space : S) → (up : IsBuildingUp Has m root (record x { slots = begun.slots }) inst rule box last count space)
    → (row : Key × Row) (new : S) → row_above last x.one.relation.rows ≡ Some row → LeadsOn Leads space new → (e : SpaceFault)
    → WhereShort e (IsShort up.slots inst.owner (bound_with (extensions_of m) (db_of x.kept) inst.relation rule up.built row))
    → WhereShort e (IsShortBuilding Has Leads (extensions_of m) x inst.relation rule new)
building-short Has Leads m root x inst rule box old begun last count space up row new is leads e short =
    let next = next_of Has m root (record x { slots = begun.slots }) inst rule box last count space up row is in
    let there = rows_there Has m root (record x { slots = up.slots }) inst rule box space up.site in
    short_own Has Leads m root x inst.relation rule inst.owner (bound_with (extensions_of m) (db_of x.kept) inst.relation rule up.built row) space new up.slots up.site.has
    (record { is = begun.is; none = begun.none; others = λ o other two. up.others o other ∙ begun.others o other })
    leads (inr (record { built = up.built; row = row; next = subst (λ (rows : Rows). IsNext rows up.built row) (sym there) next; within = omega arith })) e up.site.tables short
