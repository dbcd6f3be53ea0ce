use Rattle.std.proofs.Common.{◌≡◌, ℕ, List, Option, Some, None, Bor, sym, ap, ◌∙◌, subst}
use Rattle.std.specs.List.{slice_get}
use Rattle.std.specs.Option.{option_copied}
use Rattle.sb_ctx.specs.declared.instance.Instance.{Instance}
use Rattle.sb_drive.specs.declared.space.SpaceFault.TheVariants.{NoMemory}
use Rattle.sb_drive.proofs.SpacesLemmas.{IfErr-passed}
use Rattle.sb_registry.specs.Live.{IsLiveRule}
use Rattle.sb_standing.proofs.CallsLemmas.{Looks-made, Looks-no_memory, Looks-passed}
use Rattle.sb_standing.specs.Tables.{db_of}
use Rattle.sb_standing.proofs.StandLemmas.{StandRules-keeps}
use Rattle.sb_asking.specs.Opened.{IsDurable}
use Rattle.sb_engine.specs.Failing.{Tells, is_veto}
use Rattle.sb_engine.proofs.FailingLemmas.{as_many, kept_content, kept_rule, kept_tells}
use Rattle.sb_engine.proofs.PlacedLemmas.{absent, placed_all}
use Rattle.sb_engine.proofs.late.entry_fails.Goals as goal

-- there is none in this place
pub returns-in_default-clause-tells : goal.returns-in_default-clause-tells
returns-in_default-clause-tells g c = λ want s gone kept has keeps is a there.
    let one = c.args.one.now in
    let none : slice_get one.rules.items c.args.i ≡ None = sym c.instance_at.ensures ∙ ap (λ (o : Option (Bor Instance)). option_copied o) c.in_default.is in
    absurd (absent one.rules.items is.one.relation.attachments c.args.i a (as_many (g.B.Boxes.meanings c.args.boxes.now) c.args.place.root s gone kept one is keeps) none there)

-- ---- it is asked
pub ask-asked-requires-clause-live : goal.ask-asked-requires-clause-live
ask-asked-requires-clause-live g c =
    let one = c.args.one.now in
    let inst = c.in-Some.inst.now in
    let at : slice_get one.rules.items c.args.i ≡ Some inst = sym c.instance_at.ensures ∙ ap (λ (o : Option (Bor Instance)). option_copied o) c.in-Some.is in
    placed_all (IsLiveRule (g.B.Boxes.meanings c.args.boxes.now)) one.rules.items c.args.i inst c.requires.is_open.live_rules at

-- ---- it is refused
pub returns-in_err-copy-clause-undamaged : goal.returns-in_err-copy-clause-undamaged
returns-in_err-copy-clause-undamaged g c = IfErr-passed c.from_residual.result NoMemory _ c.from_residual.ensures.1 (λ want s gone kept has keeps is. tt)

pub returns-in_err-copy-clause-looks : goal.returns-in_err-copy-clause-looks
returns-in_err-copy-clause-looks g c =
    Looks-no_memory g.S.PageSpace.has g.S.PageSpace.leads g.S.PageSpace.fails c.args.space.now c.args.space.now c.from_residual.result c.from_residual.ensures.1 (g.met.S.PageSpace.stays c.args.space.now) (λ want s has. has)

pub returns-in_err-made-clause-undamaged : goal.returns-in_err-made-clause-undamaged
returns-in_err-made-clause-undamaged g c =
    let m = g.B.Boxes.meanings c.args.boxes.now in
    let one = c.args.one.now in
    let inst = c.in-Some.inst.now in
    let at : slice_get one.rules.items c.args.i ≡ Some inst = sym c.instance_at.ensures ∙ ap (λ (o : Option (Bor Instance)). option_copied o) c.in-Some.is in
    let live : IsLiveRule m inst = placed_all (IsLiveRule m) one.rules.items c.args.i inst c.requires.is_open.live_rules at in
    IfErr-passed c.from_residual-in_err-made.result c.in_err-made.field-0.0 _ c.from_residual-in_err-made.ensures.1
    (λ want s gone kept has keeps is.
    let placed = kept_rule m c.args.place.root s gone kept one is keeps c.args.i inst at in
    let content = kept_content m s kept one is c.args.i inst live.box placed live.live in
    c.in_err-made.ensures.undamaged live want s kept content.0 has keeps.tables (StandRules-keeps m IsDurable c.args.place.root s gone kept keeps) content.1)

pub returns-in_err-made-clause-looks : goal.returns-in_err-made-clause-looks
returns-in_err-made-clause-looks g c =
    Looks-passed g.S.PageSpace.has g.S.PageSpace.leads g.S.PageSpace.fails c.args.space.now c.ask-asked.new.space c.from_residual-in_err-made.result c.in_err-made.field-0.0 c.from_residual-in_err-made.ensures.1 (c.in_err-made.ensures.looks tt)

-- ---- what it says
pub returns-clause-tells : goal.returns-clause-tells
returns-clause-tells g c = λ want s gone kept has keeps is a there.
    let m = g.B.Boxes.meanings c.args.boxes.now in
    let one = c.args.one.now in
    let inst = c.in-Some.inst.now in
    let at : slice_get one.rules.items c.args.i ≡ Some inst = sym c.instance_at.ensures ∙ ap (λ (o : Option (Bor Instance)). option_copied o) c.in-Some.is in
    let live : IsLiveRule m inst = placed_all (IsLiveRule m) one.rules.items c.args.i inst c.requires.is_open.live_rules at in
    let placed = kept_rule m c.args.place.root s gone kept one is keeps c.args.i inst at in
    let made = c.in_ok-made.made in
    let tells = kept_tells m s kept one is c.args.i inst live.box placed live.live g.S.PageSpace.has want c.ask-asked.new.space c.in_ok-copy.copy made c.in_ok-made.ensures.ends
    (c.in_ok-made.ensures.asked live want s kept has keeps.tables) a there in
    rw c.is_veto-fails.ensures (subst (λ (e : List ℕ). Tells (db_of kept) one.name a.rule e (is_veto made)) c.in_ok-copy.ensures tells)

pub returns-clause-looks : goal.returns-clause-looks
returns-clause-looks g c =
    Looks-made g.S.PageSpace.has g.S.PageSpace.leads g.S.PageSpace.fails c.args.space.now c.ask-asked.new.space c.in_ok-made.made c.is_veto-fails.result (c.in_ok-made.ensures.looks tt)
