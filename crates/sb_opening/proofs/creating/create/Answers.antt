use Rattle.std.proofs.Common.{[], List, subst}
use Rattle.sb_recover.specs.FirstPages.{first_page}
use Rattle.sb_images.specs.Layout.{geometry_of}
use Rattle.sb_session.specs.Sessions.{IsFor}
use Rattle.sb_opening.specs.declared.codes.Named.{Named}
use Rattle.sb_opening.specs.Naming.{HasLive}
use Rattle.sb_opening.specs.Opening.{opened}
use Rattle.sb_opening.proofs.CreateLemmas.{created, if_stored, keeps-made, leaves-made, made_only, ok_then, size-made}
use Rattle.sb_opening.proofs.creating.create.Goals as goal

pub returns-clause-stands : goal.returns-clause-stands
returns-clause-stands g c =
    let sizes = geometry_of c.args.pages c.args.log in
    ok_then c.open.result _ _ c.open.ensures.stands (λ session is.
    if_stored sizes (g.D.Disk.told c.args.disk.now) (g.D.Disk.told c.format.new.disk) c.in_ok-format.ensures.made (g.B.Boxes.meanings c.args.boxes)
    (IsFor g.B.Boxes.meanings g.D.Disk.told g.D.Disk.len (first_page c.args.pages) (opened (g.B.Boxes.meanings session.boxes) []) c.open.new.disk session)
    (λ stored named. is sizes (first_page c.args.pages) [] stored))

pub returns-clause-live : goal.returns-clause-live
returns-clause-live g c =
    let sizes = geometry_of c.args.pages c.args.log in
    ok_then c.open.result _ _ c.open.ensures.live (λ session is.
    if_stored sizes (g.D.Disk.told c.args.disk.now) (g.D.Disk.told c.format.new.disk) c.in_ok-format.ensures.made (g.B.Boxes.meanings c.args.boxes) _
    (λ stored named. subst (λ (names : List Named). HasLive (g.B.Boxes.meanings c.args.boxes) names (g.B.Boxes.meanings session.boxes)) named (is sizes (first_page c.args.pages) [] stored)))

pub returns-clause-sizes : goal.returns-clause-sizes
returns-clause-sizes g c =
    let sizes = geometry_of c.args.pages c.args.log in
    let want = first_page c.args.pages in
    ok_then c.open.result _ _ c.open.ensures.stands (λ session is.
    if_stored sizes (g.D.Disk.told c.args.disk.now) (g.D.Disk.told c.format.new.disk) c.in_ok-format.ensures.made (g.B.Boxes.meanings c.args.boxes) _
    (λ stored named.
    size-made g.B.Boxes.meanings g.D.Disk.told g.D.Disk.len want sizes [] c.open.new.disk session (is sizes want [] stored) (g.D.Disk.told c.format.new.disk)
    (c.open.ensures.any_moment want sizes c.in_ok-format.ensures.made.mounted)))

pub returns-clause-any_moment : goal.returns-clause-any_moment
returns-clause-any_moment g c = λ settled none.
    let sizes = geometry_of c.args.pages c.args.log in
    leaves-made sizes (g.D.Disk.told c.args.disk.now) (g.D.Disk.told c.format.new.disk) c.in_ok-format.ensures.made (g.D.Disk.told c.open.new.disk)
    (c.in_ok-format.ensures.any_moment settled none)
    (c.open.ensures.any_moment (first_page c.args.pages) sizes c.in_ok-format.ensures.made.mounted)

pub returns-clause-keeps_store : goal.returns-clause-keeps_store
returns-clause-keeps_store g c =
    keeps-made (geometry_of c.args.pages c.args.log) (g.D.Disk.told c.args.disk.now) (g.D.Disk.told c.format.new.disk) c.in_ok-format.ensures.made (g.D.Disk.told c.open.new.disk)

pub returns-clause-refused : goal.returns-clause-refused
returns-clause-refused g c =
    let sizes = geometry_of c.args.pages c.args.log in
    created c.open.result g.D.Disk.told (g.D.Disk.len c.args.disk.now) sizes c.args.disk.now c.open.new.disk
    (made_only sizes (g.D.Disk.told c.args.disk.now) (g.D.Disk.told c.format.new.disk) c.in_ok-format.ensures.made (g.B.Boxes.meanings c.args.boxes) (g.D.Disk.told c.open.new.disk)
    c.open.result (c.open.ensures.any_moment (first_page c.args.pages) sizes c.in_ok-format.ensures.made.mounted) c.open.ensures.refused c.open.ensures.missing)
