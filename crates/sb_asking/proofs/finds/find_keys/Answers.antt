use Rattle.std.proofs.Common.{◌≡◌, ◌∙◌, List, Option, option_map, IfSome, is_none, sym, ap, subst}
use Rattle.std.proofs.lemmas.Result.{IfOk-weaker, IfErr-weaker}
use Rattle.sb_relation.specs.Db.{Name}
use Rattle.sb_relation.specs.Fits.{first_unnamed, places_in}
use Rattle.sb_ctx.specs.View.{keys_with}
use Rattle.sb_drive.specs.Slots.{Slots}
use Rattle.sb_drive.specs.Spaces.{Wanted}
use Rattle.sb_registry.specs.Runs.{IsSound}
use Rattle.sb_opened.proofs.CallsLemmas.{Looks-later}
use Rattle.sb_opened.specs.Standing.{StandRules}
use Rattle.sb_opened.specs.Tables.{Kept, Tables, db_of}
use Rattle.sb_opened.specs.declared.relation.OpenRelation.{OpenRelation}
use Rattle.sb_opened.specs.Opened.{IsDurable, IsOpen}
use Rattle.sb_asking.proofs.FindsLemmas.{IsAt-opened, keys_with-columnless, keys_with-opened, keys_with-unopened}
use Rattle.sb_asking.proofs.finds.find_keys.Goals as goal

-- there is no such relation
pub returns-in_default-clause-keys : goal.returns-in_default-clause-keys
returns-in_default-clause-keys g c = λ want s kept has tables.
    let found = sym (ap (option_map (λ (o : OpenRelation). o.descriptor)) c.in_default.is) ∙ c.in_ok-opened.ensures.found want s kept has tables in
    c.new.ensures ∙ sym (keys_with-unopened kept c.args.relation.now c.args.columns.now c.args.values.now found)

-- a column isn't there
pub returns-then-not-has_columns-clause-keys : goal.returns-then-not-has_columns-clause-keys
returns-then-not-has_columns-clause-keys g c = λ want s kept has tables.
    let m = g.B.Boxes.meanings c.args.boxes.now in
    let o = c.in-Some.opened in
    let name = c.args.relation.now in
    let is_open = subst (λ (x : Option OpenRelation). IfSome x (λ y. IsOpen m y × (y.name ≡ name))) c.in-Some.is c.in_ok-opened.ensures.opened in
    let found = sym (ap (option_map (λ (y : OpenRelation). y.descriptor)) c.in-Some.is) ∙ c.in_ok-opened.ensures.found want s kept has tables in
    let at = IsAt-opened m c.args.place.root s kept name o tables is_open.0 is_open.1 found in
    let unnamed = ap (λ (cs : List Name). is_none (first_unnamed (places_in o.table.schema cs))) (sym c.as_slice.ensures) ∙ sym c.has_columns.ensures ∙ c.if-not-has_columns.true in
    c.new-then-not-has_columns.ensures ∙ sym (keys_with-columnless m s kept name o c.args.columns.now c.args.values.now at unnamed)

-- the rows are tested
pub returns-clause-keys : goal.returns-clause-keys
returns-clause-keys g c =
    let m = g.B.Boxes.meanings c.args.boxes.now in
    let o = c.in-Some.opened in
    let name = c.args.relation.now in
    let is_open = subst (λ (x : Option OpenRelation). IfSome x (λ y. IsOpen m y × (y.name ≡ name))) c.in-Some.is c.in_ok-opened.ensures.opened in
    let named = ap (λ (cs : List Name). is_none (first_unnamed (places_in o.table.schema cs))) (sym c.as_slice.ensures) ∙ sym c.has_columns.ensures ∙ c.if-not-has_columns.false in
    IfOk-weaker c.keys_where.result _ (λ keys. (want : Wanted) (s : Slots) (kept : List Kept) → g.S.PageSpace.has want s c.args.space.now → Tables m IsDurable c.args.place.root s kept → keys ≡ keys_with (db_of kept) name c.args.columns.now c.args.values.now)
    (λ keys is want s kept has tables.
    let found = sym (ap (option_map (λ (y : OpenRelation). y.descriptor)) c.in-Some.is) ∙ c.in_ok-opened.ensures.found want s kept has tables in
    let at = IsAt-opened m c.args.place.root s kept name o tables is_open.0 is_open.1 found in
    is want s at.k.relation.rows (c.in_ok-opened.ensures.looks.same want s has) at.rows ∙ sym (keys_with-opened m s kept name o c.args.columns.now c.args.values.now at named))
    c.keys_where.ensures.keys

pub returns-clause-undamaged : goal.returns-clause-undamaged
returns-clause-undamaged g c =
    let m = g.B.Boxes.meanings c.args.boxes.now in
    let o = c.in-Some.opened in
    let name = c.args.relation.now in
    let is_open = subst (λ (x : Option OpenRelation). IfSome x (λ y. IsOpen m y × (y.name ≡ name))) c.in-Some.is c.in_ok-opened.ensures.opened in
    IfErr-weaker c.keys_where.result _ (λ e. (want : Wanted) (s : Slots) (kept : List Kept) → g.S.PageSpace.has want s c.args.space.now → Tables m IsDurable c.args.place.root s kept → StandRules m IsDurable (db_of kept) kept → IsSound e)
    (λ e is want s kept has tables stand.
    let found = sym (ap (option_map (λ (y : OpenRelation). y.descriptor)) c.in-Some.is) ∙ c.in_ok-opened.ensures.found want s kept has tables in
    let at = IsAt-opened m c.args.place.root s kept name o tables is_open.0 is_open.1 found in
    is want s at.k.relation.rows (c.in_ok-opened.ensures.looks.same want s has) at.rows)
    c.keys_where.ensures.undamaged

pub returns-clause-looks : goal.returns-clause-looks
returns-clause-looks g c =
    let looks = c.in_ok-opened.ensures.looks in
    Looks-later g.S.PageSpace.has g.S.PageSpace.leads g.S.PageSpace.fails c.args.space.now c.open_relation.new.space c.keys_where.new.space c.keys_where.result g.met.S.PageSpace.goes_on g.met.S.PageSpace.fails_on
    looks.leads looks.same c.keys_where.ensures.looks
