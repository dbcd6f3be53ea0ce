use Rattle.std.proofs.Common.{rules, ◌≡◌, ◌+◌, ◌-◌, ◌*◌, Result, Ok, Err, OnOk, ℕ, List, length, take, drop, sym, ◌∙◌, ap, arith}
use Rattle.std.proofs.lemmas.List.{take_rest, length-drop}
use Rattle.sb_disk.proofs.MomentLemmas.{on_sync_call}
use Rattle.sb_recover.specs.FirstPages.{super_page}
use Rattle.sb_images.specs.Layout.{geometry_of}
use Rattle.sb_recover.proofs.LaidLemmas.{IsLaid-on, left_write, left_gates, left_pages, Fits-within}
use Rattle.sb_recover.proofs.laying.lay.Goals as goal

on_ok : {T E : Type 0} (result : Result T E) (A B : Type 0) → (A → B) → OnOk result A → OnOk result B
on_ok (Ok x) A B leads ok = leads ok
on_ok (Err e) A B leads ok = tt

-- the bytes of a page behind its first
long_rest : (page : List ℕ) → length page ≡ 4096 → length (take (length page - 1) (drop 1 page)) ≡ 4095
long_rest page long = let same = ap (λ (l : List ℕ). length l) (take_rest page 1) in let rest = length-drop 1 page in omega arith

pub returns-in_err-write_at-clause-any_moment : goal.returns-in_err-write_at-clause-any_moment
returns-in_err-write_at-clause-any_moment g c =
    let long = long_rest c.fill_super.new.page (search rules) in
    let room = c.requires.room in
    left_write 1 (69631 + c.args.g.log + 4096 * c.args.g.pages) c.write_at.result 1 _ _ _ (omega arith) (omega arith)
    (Fits-within (g.D.Disk.len c.args.disk.now) (g.D.Disk.clock c.args.disk.now) _ _ _ (g.met.D.Disk.fits c.args.disk.now) (omega arith)) c.write_at.ensures.ok c.write_at.ensures.err

pub returns-in_err-lay_gates-clause-any_moment : goal.returns-in_err-lay_gates-clause-any_moment
returns-in_err-lay_gates-clause-any_moment g c =
    let long = long_rest c.fill_super.new.page (search rules) in
    left_gates c.args.g (g.D.Disk.len c.args.disk.now) (g.D.Disk.clock c.args.disk.now) _ long _ _ (g.met.D.Disk.fits c.args.disk.now) c.requires.room c.in_ok-write_at.ensures.ok _
    c.lay_gates.ensures.any_moment

pub returns-in_err-lay_pages-clause-any_moment : goal.returns-in_err-lay_pages-clause-any_moment
returns-in_err-lay_pages-clause-any_moment g c =
    let long = long_rest c.fill_super.new.page (search rules) in
    left_pages c.args.g (g.D.Disk.len c.args.disk.now) (g.D.Disk.clock c.args.disk.now) _ long _ _ (g.met.D.Disk.fits c.args.disk.now) c.requires.room c.in_ok-write_at.ensures.ok _ _
    c.in_ok-lay_gates.ensures.laid c.lay_gates.ensures.any_moment c.lay_pages.ensures.any_moment

pub returns-clause-any_moment : goal.returns-clause-any_moment
returns-clause-any_moment g c =
    let long = long_rest c.fill_super.new.page (search rules) in
    on_sync_call c.sync.result _ _ _ _
    (left_pages c.args.g (g.D.Disk.len c.args.disk.now) (g.D.Disk.clock c.args.disk.now) _ long _ _ (g.met.D.Disk.fits c.args.disk.now) c.requires.room c.in_ok-write_at.ensures.ok _ _
    c.in_ok-lay_gates.ensures.laid c.lay_gates.ensures.any_moment c.lay_pages.ensures.any_moment) c.sync.ensures.ok c.sync.ensures.err

-- a geometry in range has version 1
same_super : (pages log version : ℕ) → version ≡ 1 → super_page (geometry_of pages log) ≡ super_page (record { pages = pages; log = log; version = version })
same_super pages log version is = ap (λ (v : ℕ). super_page (record { pages = pages; log = log; version = v })) (sym is)

pub returns-clause-laid : goal.returns-clause-laid
returns-clause-laid g c =
    let page = c.fill_super.new.page in
    let long = long_rest page (search rules) in
    let is = take_rest page 1 ∙ c.fill_super.ensures ∙ ap (λ (l : List ℕ). drop 1 l) (same_super c.args.g.pages c.args.g.log c.args.g.version c.requires.sizes.version) in
    on_ok c.sync.result _ _ (λ synced. IsLaid-on c.args.g _ long is (g.D.Disk.len c.args.disk.now) (g.D.Disk.clock c.args.disk.now) _ _ _ _ _ (g.met.D.Disk.fits c.args.disk.now) c.requires.room
    c.in_ok-write_at.ensures.ok c.in_ok-lay_gates.ensures.laid c.in_ok-lay_pages.ensures.laid synced) c.sync.ensures.ok
