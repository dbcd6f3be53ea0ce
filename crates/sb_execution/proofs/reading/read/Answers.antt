use Rattle.std.proofs.Common.{◌≡◌, ◌∙◌, List, Option, Ok, Err, Some, Bor, option_copied, is_some, true≢false, sym, ap}
use Rattle.sb_relation.specs.Db.{Name}
use Rattle.sb_drive.proofs.SpacesLemmas.{IfErr-passed}
use Rattle.sb_standing.proofs.CallsLemmas.{Looks-later, Looks-made, Looks-passed}
use Rattle.sb_standing.proofs.StandLemmas.{StandRules-keeps}
use Rattle.sb_standing.specs.Tables.{db_of}
use Rattle.sb_engine.specs.OpenRelation.{OpenRelation}
use Rattle.sb_engine.specs.Opened.{IsDurable, IsOpen}
use Rattle.sb_engine.specs.Working.{open_at}
use Rattle.sb_engine.proofs.OpenedLemmas.{open_at-all, open_at-name}
use Rattle.sb_reads.proofs.ReadsLemmas.{there-read}
use Rattle.sb_reads.proofs.StoresLemmas.{not-there}
use Rattle.sb_execution.proofs.ReadLemmas.{keeps-open}
use Rattle.sb_execution.proofs.reading.read.Goals as goal

-- ---- its relation can't be opened, or isn't there
pub returns-in_err-open_named-clause-undamaged : goal.returns-in_err-open_named-clause-undamaged
returns-in_err-open_named-clause-undamaged g c =
    IfErr-passed c.from_residual.result c.in_err-open_named.field-0.0 _ c.from_residual.ensures.1 (λ want s gone kept has keeps are may.
    c.in_err-open_named.ensures.undamaged want s kept (record { has = has; tables = keeps.tables; opened = are })
    (StandRules-keeps (g.B.Boxes.meanings c.args.boxes.now) IsDurable c.args.place.root s gone kept keeps))

pub returns-then-not-branch-clause-undamaged : goal.returns-then-not-branch-clause-undamaged
returns-then-not-branch-clause-undamaged g c = λ want s gone kept has keeps are may.
    let name = c.in-Some.relation.now in
    let reads = sym c.relation_read.ensures ∙ ap (λ (x : Option (Bor Name)). option_copied x) c.in-Some.is in
    let found = c.in_ok-open_named.ensures.found want s kept (record { has = has; tables = keeps.tables; opened = are }) in
    not-there kept name (sym found ∙ c.if-not-branch.true) (there-read (db_of kept) c.args.command.now name reads may)

-- ---- it is open
pub unreachable-requires : goal.unreachable-requires
unreachable-requires g c =
    let name = c.in-Some.relation.now in
    true≢false (sym c.if-not-branch.false ∙ c.in_ok-open_named.ensures.there ∙ ap (λ (l : List OpenRelation). is_some (open_at l name)) (sym c.deref.ensures.value)
    ∙ ap (λ (o : Option OpenRelation). is_some o) (sym c.open_at.ensures) ∙ ap (λ (o : Option (Bor OpenRelation)). is_some (option_copied o)) c.in_default-open_at.is)

pub read_relation-requires-clause-open : goal.read_relation-requires-clause-open
read_relation-requires-clause-open g c =
    let name = c.in-Some.relation.now in
    let one = c.in-Some-open_at.one.now in
    let at : open_at c.open_named.new.opened.items name ≡ Some one =
    ap (λ (l : List OpenRelation). open_at l name) (sym c.deref.ensures.value) ∙ sym c.open_at.ensures ∙ ap (λ (o : Option (Bor OpenRelation)). option_copied o) c.in-Some-open_at.is in
    open_at-all (IsOpen (g.B.Boxes.meanings c.args.boxes.now)) c.open_named.new.opened.items name one c.in_ok-open_named.ensures.are_open at

pub read_relation-requires-clause-reads : goal.read_relation-requires-clause-reads
read_relation-requires-clause-reads g c =
    let name = c.in-Some.relation.now in
    let one = c.in-Some-open_at.one.now in
    let at : open_at c.open_named.new.opened.items name ≡ Some one =
    ap (λ (l : List OpenRelation). open_at l name) (sym c.deref.ensures.value) ∙ sym c.open_at.ensures ∙ ap (λ (o : Option (Bor OpenRelation)). option_copied o) c.in-Some-open_at.is in
    sym c.relation_read.ensures ∙ ap (λ (x : Option (Bor Name)). option_copied x) c.in-Some.is ∙ ap (λ (n : Name). Some n) (sym (open_at-name c.open_named.new.opened.items name one at))

pub returns-in_err-reply-clause-undamaged : goal.returns-in_err-reply-clause-undamaged
returns-in_err-reply-clause-undamaged g c =
    IfErr-passed c.from_residual-in_err-reply.result c.in_err-reply.field-0.0 _ c.from_residual-in_err-reply.ensures.1 (λ want s gone kept has keeps are may.
    let m = g.B.Boxes.meanings c.args.boxes.now in
    let name = c.in-Some.relation.now in
    let one = c.in-Some-open_at.one.now in
    let ones = c.open_named.new.opened.items in
    let at : open_at ones name ≡ Some one =
    ap (λ (l : List OpenRelation). open_at l name) (sym c.deref.ensures.value) ∙ sym c.open_at.ensures ∙ ap (λ (o : Option (Bor OpenRelation)). option_copied o) c.in-Some-open_at.is in
    let now = c.in_ok-open_named.ensures.opened want s kept (record { has = has; tables = keeps.tables; opened = are }) in
    let is = keeps-open m c.args.place.root s gone kept ones name one keeps now at in
    c.in_err-reply.ensures.undamaged want s kept is.0 (c.in_ok-open_named.ensures.looks.same want s has) is.1 may)

pub returns-in_err-reply-clause-looks : goal.returns-in_err-reply-clause-looks
returns-in_err-reply-clause-looks g c =
    let fault = c.in_err-reply.field-0.0 in
    Looks-passed g.S.PageSpace.has g.S.PageSpace.leads g.S.PageSpace.fails c.args.space.now c.read_relation.new.space c.from_residual-in_err-reply.result fault c.from_residual-in_err-reply.ensures.1
    (Looks-later g.S.PageSpace.has g.S.PageSpace.leads g.S.PageSpace.fails c.args.space.now c.open_named.new.space c.read_relation.new.space (Err fault) g.met.S.PageSpace.goes_on g.met.S.PageSpace.fails_on c.in_ok-open_named.ensures.looks.leads c.in_ok-open_named.ensures.looks.same c.in_err-reply.ensures.looks)

pub returns-clause-reply : goal.returns-clause-reply
returns-clause-reply g c = λ want s gone kept ext has keeps are boxes may.
    let m = g.B.Boxes.meanings c.args.boxes.now in
    let name = c.in-Some.relation.now in
    let one = c.in-Some-open_at.one.now in
    let ones = c.open_named.new.opened.items in
    let at : open_at ones name ≡ Some one =
    ap (λ (l : List OpenRelation). open_at l name) (sym c.deref.ensures.value) ∙ sym c.open_at.ensures ∙ ap (λ (o : Option (Bor OpenRelation)). option_copied o) c.in-Some-open_at.is in
    let now = c.in_ok-open_named.ensures.opened want s kept (record { has = has; tables = keeps.tables; opened = are }) in
    let is = keeps-open m c.args.place.root s gone kept ones name one keeps now at in
    c.in_ok-reply.ensures.reply want s kept is.0 (c.in_ok-open_named.ensures.looks.same want s has) is.1 ext boxes may

pub returns-clause-looks : goal.returns-clause-looks
returns-clause-looks g c =
    Looks-made g.S.PageSpace.has g.S.PageSpace.leads g.S.PageSpace.fails c.args.space.now c.read_relation.new.space c.in_ok-reply.reply _
    (Looks-later g.S.PageSpace.has g.S.PageSpace.leads g.S.PageSpace.fails c.args.space.now c.open_named.new.space c.read_relation.new.space (Ok c.in_ok-reply.reply) g.met.S.PageSpace.goes_on g.met.S.PageSpace.fails_on c.in_ok-open_named.ensures.looks.leads c.in_ok-open_named.ensures.looks.same c.in_ok-reply.ensures.looks)
