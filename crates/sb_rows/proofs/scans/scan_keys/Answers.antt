use Rattle.std.proofs.Common.{◌≡◌, ◌∙◌, ◌^◌, true, List, None, Option, IfSome, Ok, Err, All, arith, sym, ap, subst}
use Rattle.std.proofs.lemmas.List.Elements.{All-nil}
use Rattle.sb_relation.specs.Db.{Key, Row}
use Rattle.sb_relation.specs.Keys.{is_record_key}
use Rattle.sb_treemethod.specs.MethodAnswers.{IsRowOf}
use Rattle.sb_rows.proofs.CallsLemmas.{Looks-damaged, Looks-later, Looks-made, Looks-no_memory, Looks-passed}
use Rattle.sb_rows.proofs.ScansLemmas.{All-more, IsMade-all, IsMade-few, IsMade-next, IsMade-none, passing, rows_above-all}
use Rattle.sb_registry.specs.SpaceFault.TheVariants.{NoMemory}
use Rattle.sb_registry.specs.Slots.{owned}
use Rattle.sb_registry.proofs.SpacesLemmas.{IfErr-passed}
use Rattle.sb_rows.proofs.scans.scan_keys.Goals as goal

pub rows-init : goal.rows-init
rows-init g c = record {
  ready = c.requires.ready;
  leads = g.met.S.PageSpace.stays c.args.space.now;
  has = λ want s has. has;
  each = subst (λ (xs : List _). All (λ key. is_record_key key ≡ true) xs) (sym c.new-keys.ensures.items) (All-nil (λ key. is_record_key key ≡ true));
  made = λ want s rows has h. IsMade-none (λ row. row.0) (g.T.RowTest.passes c.args.test.now) rows None c.new-keys.result.items c.new-keys.ensures.items;
}

-- ---- one row more
pub rows-preserved : goal.rows-preserved
rows-preserved g c =
    let before = c.rows.invariant in
    let looks = c.in_ok-key.ensures.looks in
    let row : Key × Row = (c.in-Some.key, c.in-Some.row) in
    let new = c.add_key.new.keys.items in
    let more = c.in_ok-add_key.ensures in
    record {
      ready = c.in_ok-key.ensures.ready;
      leads = g.met.S.PageSpace.goes_on 0 0 c.args.space.now c.rows.space c.next_row.new.space before.leads looks.leads;
      has = λ want s has. looks.same want s (before.has want s has);
      each = All-more (λ key. is_record_key key ≡ true) c.rows.keys.items new (c.in-Some.key) c.passes-passed.result more before.each
          (subst (λ (o : Option (Key × Row)). IfSome o (λ r. IsRowOf c.args.inst.now r.0 r.1)) c.in-Some.is c.in_ok-key.ensures.is_row).is_key;
      made = λ want s rows has h.
          let law = (h.live.law.formed c.args.inst.now (owned s c.args.inst.now.owner) rows h.holds).lawful in
          let next = c.in_ok-key.ensures.row want s rows (before.has want s has) h in
          let made = IsMade-next (λ row. row.0) (g.T.RowTest.passes c.args.test.now) rows None c.rows.last c.rows.counter c.rows.keys.items new row c.passes-passed.result law.rising
          (sym next ∙ c.in-Some.is) c.passes-passed.ensures more (before.made want s rows has h) in
          made;
    }

-- ---- a refusal
pub returns-in_err-key-clause-looks : goal.returns-in_err-key-clause-looks
returns-in_err-key-clause-looks g c =
    let fault = c.in_err-key.field-0.0 in
    Looks-passed g.S.PageSpace.has g.S.PageSpace.leads g.S.PageSpace.fails c.args.space.now c.next_row.new.space c.from_residual.result fault c.from_residual.ensures.1
    (Looks-later g.S.PageSpace.has g.S.PageSpace.leads g.S.PageSpace.fails c.args.space.now c.rows.space c.next_row.new.space (Err fault) g.met.S.PageSpace.goes_on g.met.S.PageSpace.fails_on c.rows.invariant.leads c.rows.invariant.has c.in_err-key.ensures.looks)

pub returns-in_err-key-clause-undamaged : goal.returns-in_err-key-clause-undamaged
returns-in_err-key-clause-undamaged g c =
    IfErr-passed c.from_residual.result c.in_err-key.field-0.0 _ c.from_residual.ensures.1 (λ want s rows has h. c.in_err-key.ensures.undamaged want s rows (c.rows.invariant.has want s has) h)

pub returns-in_err-add_key-clause-looks : goal.returns-in_err-add_key-clause-looks
returns-in_err-add_key-clause-looks g c =
    let looks = c.in_ok-key.ensures.looks in
    Looks-no_memory g.S.PageSpace.has g.S.PageSpace.leads g.S.PageSpace.fails c.args.space.now c.next_row.new.space c.from_residual-in_err-add_key.result c.from_residual-in_err-add_key.ensures.1
    (g.met.S.PageSpace.goes_on 0 0 c.args.space.now c.rows.space c.next_row.new.space c.rows.invariant.leads looks.leads) (λ want s has. looks.same want s (c.rows.invariant.has want s has))

pub returns-in_err-add_key-clause-undamaged : goal.returns-in_err-add_key-clause-undamaged
returns-in_err-add_key-clause-undamaged g c = IfErr-passed c.from_residual-in_err-add_key.result NoMemory _ c.from_residual-in_err-add_key.ensures.1 (λ want s rows has h. tt)

-- ---- the end
pub returns-in_default-clause-looks : goal.returns-in_default-clause-looks
returns-in_default-clause-looks g c =
    Looks-made g.S.PageSpace.has g.S.PageSpace.leads g.S.PageSpace.fails c.args.space.now c.next_row.new.space c.in_ok-key.field-0 _ (Looks-later g.S.PageSpace.has g.S.PageSpace.leads g.S.PageSpace.fails c.args.space.now c.rows.space c.next_row.new.space (Ok c.in_ok-key.field-0) g.met.S.PageSpace.goes_on g.met.S.PageSpace.fails_on c.rows.invariant.leads c.rows.invariant.has c.in_ok-key.ensures.looks)

pub returns-in_default-clause-keys : goal.returns-in_default-clause-keys
returns-in_default-clause-keys g c = λ want s rows has h.
    let next = c.in_ok-key.ensures.row want s rows (c.rows.invariant.has want s has) h in
    c.from_vec.ensures ∙ IsMade-all (λ row. row.0) (g.T.RowTest.passes c.args.test.now) rows None c.rows.last c.rows.counter c.rows.keys.items (sym next ∙ c.in_default.is) (c.rows.invariant.made want s rows has h)
    ∙ ap (passing (λ row. row.0) (g.T.RowTest.passes c.args.test.now)) (rows_above-all rows)

pub returns-in_default-clause-are_keys : goal.returns-in_default-clause-are_keys
returns-in_default-clause-are_keys g c = subst (λ (xs : List Key). All (λ key. is_record_key key ≡ true) xs) (sym c.from_vec.ensures) c.rows.invariant.each

-- ---- more rows than there are
pub returns-clause-looks : goal.returns-clause-looks
returns-clause-looks g c = Looks-damaged g.S.PageSpace.has g.S.PageSpace.leads g.S.PageSpace.fails c.args.space.now c.rows.space c.args.inst.now.root c.rows.invariant.leads c.rows.invariant.has

pub returns-clause-undamaged : goal.returns-clause-undamaged
returns-clause-undamaged g c = λ want s rows has h.
    let law = (h.live.law.formed c.args.inst.now (owned s c.args.inst.now.owner) rows h.holds).lawful in
    IsMade-few (λ row. row.0) (g.T.RowTest.passes c.args.test.now) rows None c.rows.last c.rows.counter (2 ^ 48) c.rows.keys.items law.few (omega arith) (c.rows.invariant.made want s rows has h)
