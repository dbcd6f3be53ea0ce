use Rattle.std.proofs.Common.{rules, ◌≡◌, ◌∷◌, [], ℕ, true, List, Vec, Global, length, set, refl, sym, ◌∙◌, ap, subst, arith}
use Rattle.std.proofs.lemmas.List.{with_items_is}
use Rattle.std.specs.Vec.{with_items}
use Rattle.std.specs.Ordering.{nat_cmp}
use Rattle.std.specs.BTreeSet.{contains_by}
use Rattle.sb_bytes.specs.Bytes.{splice}
use Rattle.sb_bytes.proofs.BytesLaws.{length-splice}
use Rattle.sb_recover.specs.Changes.{change_of}
use Rattle.sb_recover.specs.Frames.{texts, AreFrames, ChangedOn}
use Rattle.sb_recover.proofs.FrameLemmas.{length-texts, texts-set, frame_at-texts}
use Rattle.sb_recover.proofs.RestoredLemmas.{HeldOn-frames, ChangedOn-wrote, AreFrames-set}
use Rattle.sb_recover.proofs.restored.write_change.Goals as goal

pub index_mut-requires : goal.index_mut-requires
index_mut-requires g c =
    let below = c.if-change-g.false in
    let now = HeldOn-frames c.args.g.now c.args.change.now.page (texts c.args.frames.now.items) (texts c.hold_page.new.frames.items) (omega (arith, below)) c.requires.frames (g.D.Disk.told c.args.disk.now) c.in_ok-hold_page.ensures.held in
    let count = now.0.count_is in let l = length-texts c.hold_page.new.frames.items in let ok = c.hold_page.new.frames.ok.0 in
    omega (arith, count, l, ok, below)

pub splice-requires : goal.splice-requires
splice-requires g c =
    let below = c.if-change-g.false in
    let now = HeldOn-frames c.args.g.now c.args.change.now.page (texts c.args.frames.now.items) (texts c.hold_page.new.frames.items) (omega (arith, below)) c.requires.frames (g.D.Disk.told c.args.disk.now) c.in_ok-hold_page.ensures.held in
    let count = now.0.count_is in let l = length-texts c.hold_page.new.frames.items in
    let is = frame_at-texts c.hold_page.new.frames.items c.args.change.now.page c.index_mut.result.now (omega (arith, count, l, below)) ∙ ap (λ (v : Vec ℕ Global). v.items) (sym c.index_mut.ensures.value) in
    let long = ap (λ (f : List ℕ). length f) is in let all = now.1 in let fits = c.requires.fits in
    let lent = ap (λ (f : List ℕ). length f) c.deref_mut.ensures.value in
    omega (arith, long, all, fits, lent)

pub returns-clause-changed : goal.returns-clause-changed
returns-clause-changed g c =
    let below = c.if-change-g.false in
    let now = HeldOn-frames c.args.g.now c.args.change.now.page (texts c.args.frames.now.items) (texts c.hold_page.new.frames.items) (omega (arith, below)) c.requires.frames (g.D.Disk.told c.args.disk.now) c.in_ok-hold_page.ensures.held in
    let count = now.0.count_is in let l = length-texts c.hold_page.new.frames.items in
    let is = frame_at-texts c.hold_page.new.frames.items c.args.change.now.page c.index_mut.result.now (omega (arith, count, l, below)) ∙ ap (λ (v : Vec ℕ Global). v.items) (sym c.index_mut.ensures.value) in
    let vec = c.index_mut.result.now in
    let lent = ap (λ (f : List ℕ). length f) c.deref_mut.ensures.value in let ok = vec.ok.0 in let kept = c.splice.auto.bytes in
    let holds = with_items_is vec c.splice.new.bytes (omega (arith, lent, ok, kept)) in
    let wrote = holds ∙ c.splice.ensures ∙ ap (λ (f : List ℕ). splice c.args.change.now.offset c.args.change.now.after.now f) c.deref_mut.ensures.value in
    let yes : contains_by (nat_cmp c.args.change.now.tx) c.args.committed.now ≡ true = search rules in
    subst (λ (fs : List (List ℕ)). ChangedOn (g.D.Disk.told c.args.disk.now) c.args.g.now (λ tx. contains_by (nat_cmp tx) c.args.committed.now) (change_of c.args.change.now ∷ []) (texts c.args.frames.now.items) fs)
    (sym (texts-set c.hold_page.new.frames.items c.args.change.now.page (with_items vec c.splice.new.bytes) ∙ ap (λ (f : List ℕ). set (texts c.hold_page.new.frames.items) c.args.change.now.page f) (wrote ∙ ap (λ (f : List ℕ). splice c.args.change.now.offset c.args.change.now.after.now f) (sym is))))
    (ChangedOn-wrote c.args.g.now c.args.change.now.page (texts c.args.frames.now.items) (texts c.hold_page.new.frames.items) (omega (arith, below)) c.requires.frames (g.D.Disk.told c.args.disk.now)
    (λ tx. contains_by (nat_cmp tx) c.args.committed.now) (change_of c.args.change.now) refl c.in_ok-hold_page.ensures.held yes c.requires.fits)

pub returns-clause-frames : goal.returns-clause-frames
returns-clause-frames g c =
    let below = c.if-change-g.false in
    let now = HeldOn-frames c.args.g.now c.args.change.now.page (texts c.args.frames.now.items) (texts c.hold_page.new.frames.items) (omega (arith, below)) c.requires.frames (g.D.Disk.told c.args.disk.now) c.in_ok-hold_page.ensures.held in
    let count = now.0.count_is in let l = length-texts c.hold_page.new.frames.items in
    let is = frame_at-texts c.hold_page.new.frames.items c.args.change.now.page c.index_mut.result.now (omega (arith, count, l, below)) ∙ ap (λ (v : Vec ℕ Global). v.items) (sym c.index_mut.ensures.value) in
    let long = ap (λ (f : List ℕ). length f) is in let all = now.1 in let fits = c.requires.fits in
    let same = length-splice c.args.change.now.offset c.args.change.now.after.now c.index_mut.result.now.items (omega (arith, long, all, fits)) in
    let vec = c.index_mut.result.now in
    let lent = ap (λ (f : List ℕ). length f) c.deref_mut.ensures.value in let ok = vec.ok.0 in let kept = c.splice.auto.bytes in
    let holds = with_items_is vec c.splice.new.bytes (omega (arith, lent, ok, kept)) in
    let wrote_is = holds ∙ c.splice.ensures ∙ ap (λ (f : List ℕ). splice c.args.change.now.offset c.args.change.now.after.now f) c.deref_mut.ensures.value in
    let wrote = ap (λ (f : List ℕ). length f) wrote_is in
    subst (λ (fs : List (List ℕ)). AreFrames c.args.g.now.pages fs) (sym (texts-set c.hold_page.new.frames.items c.args.change.now.page (with_items vec c.splice.new.bytes)))
    (AreFrames-set c.args.g.now.pages (texts c.hold_page.new.frames.items) c.args.change.now.page (with_items vec c.splice.new.bytes).items (omega (arith, wrote, same, long, all)) now.0)
