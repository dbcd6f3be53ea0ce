use Rattle.std.proofs.Common.{rules, ◌≡◌, ◌∙◌, ℕ, Option, List, true, false, is_some, length, get_or, refl, sym, subst, arith}
use Rattle.std.proofs.lemmas.List.{take_at}
use Rattle.std.specs.Prelude.{slice_index}
use Rattle.sb_disk.specs.Disk.{Story}
use Rattle.sb_disk.specs.Moments.{LeavesOnly}
use Rattle.sb_images.specs.Layout.{geometry_of}
use Rattle.sb_recover.specs.Laying.{IsGate}
use Rattle.sb_recover.specs.Formatting.{IsFormatting, KeepsStore}
use Rattle.sb_recover.specs.Geometries.{HoldsNone}
use Rattle.sb_recover.proofs.SuperLemmas.{FindsOn, FindsOn-page}
use Rattle.sb_recover.proofs.FormattingLemmas.{KeepsStore-same, LeavesOnly-none, formatting, HoldsStore-found, HoldsNone-found, IsGate-read}
use Rattle.sb_recover.proofs.formatting.format.Goals as goal

pub returns-then-have-need-clause-any_moment : goal.returns-then-have-need-clause-any_moment
returns-then-have-need-clause-any_moment g c = λ settled none. formatting _ _ _ (LeavesOnly-none _ settled none)

pub returns-in_err-page-clause-any_moment : goal.returns-in_err-page-clause-any_moment
returns-in_err-page-clause-any_moment g c = λ settled none. formatting _ _ _ (LeavesOnly-none _ settled none)

pub returns-in_err-read_at-clause-any_moment : goal.returns-in_err-read_at-clause-any_moment
returns-in_err-read_at-clause-any_moment g c = λ settled none.
    subst (λ (told : Option Story). LeavesOnly (g.D.Disk.told c.args.disk.now) told (IsFormatting (geometry_of c.args.pages c.args.log))) (sym c.read_at.ensures.told)
    (formatting _ _ _ (LeavesOnly-none _ settled none))

pub returns-then-is_some-clause-any_moment : goal.returns-then-is_some-clause-any_moment
returns-then-is_some-clause-any_moment g c = λ settled none.
    subst (λ (told : Option Story). LeavesOnly (g.D.Disk.told c.args.disk.now) told (IsFormatting (geometry_of c.args.pages c.args.log))) (sym c.read_at.ensures.told)
    (formatting _ _ _ (LeavesOnly-none _ settled none))

pub returns-then-is_some-clause-refused : goal.returns-then-is_some-clause-refused
returns-then-is_some-clause-refused g c =
    let long : length c.read_at.new.buffer ≡ 4096 = search rules in
    let filled : length c.read_at.new.buffer ≡ c.in_ok-page.page.len = search rules in
    let same : c.deref.result.now ≡ c.read_at.new.buffer = c.deref.ensures.value ∙ take_at c.read_at.new.buffer _ c.in_ok-page.page.len filled in
    let finds : FindsOn (g.D.Disk.told c.args.disk.now) c.found_in.result =
    FindsOn-page (g.D.Disk.told c.args.disk.now) (g.D.Disk.len c.args.disk.now) (g.D.Disk.clock c.args.disk.now) c.read_at.new.buffer c.found_in.result
    (g.met.D.Disk.fits c.args.disk.now) long c.in_ok-read_at.ensures.ok (λ image super size. c.found_in.ensures image (super ∙ sym same) (size ∙ sym c.len-have.ensures)) in
    let some : is_some c.found_in.result ≡ true = search rules in
    (HoldsStore-found _ c.found_in.result finds some, c.read_at.ensures.told)

pub make-requires-clause-gate : goal.make-requires-clause-gate
make-requires-clause-gate g c =
    let long : length c.read_at.new.buffer ≡ 4096 = search rules in
    let filled : length c.read_at.new.buffer ≡ c.in_ok-page.page.len = search rules in
    let same : c.deref_mut-2.result.now ≡ c.read_at.new.buffer = c.deref_mut-2.ensures.value ∙ take_at c.read_at.new.buffer _ c.in_ok-page.page.len filled in
    subst (λ (told : Option Story). IsGate told (slice_index c.deref_mut-2.result.now 0)) (sym c.read_at.ensures.told)
    (subst (λ (page : List ℕ). IsGate (g.D.Disk.told c.args.disk.now) (get_or page 0 0)) (sym same) (IsGate-read (g.D.Disk.told c.args.disk.now) c.read_at.new.buffer long c.in_ok-read_at.ensures.ok))

pub make-requires-clause-none : goal.make-requires-clause-none
make-requires-clause-none g c =
    let long : length c.read_at.new.buffer ≡ 4096 = search rules in
    let filled : length c.read_at.new.buffer ≡ c.in_ok-page.page.len = search rules in
    let same : c.deref.result.now ≡ c.read_at.new.buffer = c.deref.ensures.value ∙ take_at c.read_at.new.buffer _ c.in_ok-page.page.len filled in
    let finds : FindsOn (g.D.Disk.told c.args.disk.now) c.found_in.result =
    FindsOn-page (g.D.Disk.told c.args.disk.now) (g.D.Disk.len c.args.disk.now) (g.D.Disk.clock c.args.disk.now) c.read_at.new.buffer c.found_in.result
    (g.met.D.Disk.fits c.args.disk.now) long c.in_ok-read_at.ensures.ok (λ image super size. c.found_in.ensures image (super ∙ sym same) (size ∙ sym c.len-have.ensures)) in
    let none : is_some c.found_in.result ≡ false = search rules in
    subst HoldsNone (sym c.read_at.ensures.told) (HoldsNone-found _ c.found_in.result finds none)

pub returns-then-is_some-clause-keeps : goal.returns-then-is_some-clause-keeps
returns-then-is_some-clause-keeps g c = record { size = c.read_at.ensures.len; later = c.read_at.ensures.cause.later; cause = λ is. absurd (cc is) }

pub returns-clause-keeps : goal.returns-clause-keeps
returns-clause-keeps g c =
    let read = c.read_at.ensures.cause.later in
    let made = c.make.ensures.cause.later in
    record { size = c.make.ensures.len ∙ c.read_at.ensures.len; later = omega arith; cause = λ is. absurd (cc is) }

-- ---- a store that was there
pub returns-then-have-need-clause-keeps_store : goal.returns-then-have-need-clause-keeps_store
returns-then-have-need-clause-keeps_store g c = KeepsStore-same _ _ refl

pub returns-in_err-page-clause-keeps_store : goal.returns-in_err-page-clause-keeps_store
returns-in_err-page-clause-keeps_store g c = KeepsStore-same _ _ refl

pub returns-in_err-read_at-clause-keeps_store : goal.returns-in_err-read_at-clause-keeps_store
returns-in_err-read_at-clause-keeps_store g c = KeepsStore-same _ _ c.read_at.ensures.told

pub returns-then-is_some-clause-keeps_store : goal.returns-then-is_some-clause-keeps_store
returns-then-is_some-clause-keeps_store g c = KeepsStore-same _ _ c.read_at.ensures.told

pub returns-in_err-make-clause-keeps_store : goal.returns-in_err-make-clause-keeps_store
returns-in_err-make-clause-keeps_store g c = subst (λ (told : Option Story). KeepsStore told (g.D.Disk.told c.make.new.disk)) c.read_at.ensures.told c.make.ensures.keeps_store

pub returns-clause-keeps_store : goal.returns-clause-keeps_store
returns-clause-keeps_store g c = subst (λ (told : Option Story). KeepsStore told (g.D.Disk.told c.make.new.disk)) c.read_at.ensures.told c.make.ensures.keeps_store
