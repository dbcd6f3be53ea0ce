use Rattle.std.proofs.Common.{◌≡◌, List, [], ◌++◌, ◌≤◌, length, refl, ap, subst, sym, ◌∙◌, arith}
use Rattle.std.specs.Vec.{with_items}
use Rattle.std.proofs.lemmas.List.{append-nil, with_items_is}
use Rattle.sb_drive.specs.Slots.{AreWhole, Slot}
use Rattle.sb_memory.specs.Contents.{Contents, Grows, slots}
use Rattle.sb_memory.specs.Writes.{written, undone, ArePagesTo, IsMemory}
use Rattle.sb_memory.proofs.SlotsLemmas.{seen, slots-kept, slots-seen}
use Rattle.sb_memory.proofs.WritesLemmas.{no_writes}
use Rattle.sb_memory.proofs.StackLemmas.{Grows-written, seen-same}
use Rattle.sb_memory.proofs.WholeLemmas.{IsMemory-grown, IsMemory-written}
use Rattle.sb_memory.specs.declared.slots.Write.{Write}
use Rattle.sb_memory.proofs.memory.Memory.write.Goals as goal

pub returns-clause-now : goal.returns-clause-now
returns-clause-now c =
    let pages : (with_items c.make_room.new.pages c.exchange_all.new.pages).items ≡ c.exchange_all.new.pages =
    with_items_is c.make_room.new.pages c.exchange_all.new.pages (c.exchange_all.ensures.len ∙ c.deref_mut.ensures.len) in
    let most : length (with_items c.make_room.new.pages c.exchange_all.new.pages).items ≤ 16384 = omega (arith, ap (λ (l : List Slot). length l) pages, c.exchange_all.ensures.len, ap (λ (l : List Slot). length l) c.deref_mut.ensures.value, c.make_room.ensures.most) in
    slots-kept (with_items c.make_room.new.pages c.exchange_all.new.pages).items most
    ∙ ap slots pages ∙ c.exchange_all.ensures.pages
    ∙ (λ i. written (c.deref_mut-2.ensures.value i) (slots (c.deref_mut.ensures.value i)))
    ∙ ap (written c.args.writes.items) (c.make_room.ensures.same ∙ sym (slots-seen c.self.inside.pages.items c.self.inside.undo.items c.args.self.now c.self.view_is c.self.invariant.most))

-- what is kept to be written back stands behind the rest
pub returns-clause-grows : goal.returns-clause-grows
returns-clause-grows c =
    let new = (with_items c.make_room.new.pages c.exchange_all.new.pages).items in
    let pages : new ≡ c.exchange_all.new.pages = with_items_is c.make_room.new.pages c.exchange_all.new.pages (c.exchange_all.ensures.len ∙ c.deref_mut.ensures.len) in
    let writes : (with_items c.args.writes c.exchange_all.new.writes).items ≡ c.exchange_all.new.writes =
    with_items_is c.args.writes c.exchange_all.new.writes (c.exchange_all.ensures.as_many ∙ c.deref_mut-2.ensures.len) in
    let undo : c.append.new.self.items ≡ c.self.inside.undo.items ++ c.exchange_all.new.writes = c.in-Ok.ensures.items ∙ (λ i. c.reserve.ensures.items i ++ writes i) in
    let stood : undone c.exchange_all.new.writes (slots new) ≡ slots c.self.inside.pages.items =
    ap (λ (l : List Slot). undone c.exchange_all.new.writes (slots l)) pages ∙ c.exchange_all.ensures.back ∙ ap slots c.deref_mut.ensures.value ∙ c.make_room.ensures.same in
    subst (λ (m : Contents). Grows m (seen new c.append.new.self.items)) c.self.view_is
    (Grows-written c.self.inside.pages.items new c.self.inside.undo.items c.exchange_all.new.writes c.append.new.self.items undo stood)

pub returns-clause-none : goal.returns-clause-none
returns-clause-none c = λ none.
    let new = (with_items c.make_room.new.pages c.exchange_all.new.pages).items in
    let pages : new ≡ c.exchange_all.new.pages = with_items_is c.make_room.new.pages c.exchange_all.new.pages (c.exchange_all.ensures.len ∙ c.deref_mut.ensures.len) in
    let writes : (with_items c.args.writes c.exchange_all.new.writes).items ≡ c.exchange_all.new.writes =
    with_items_is c.args.writes c.exchange_all.new.writes (c.exchange_all.ensures.as_many ∙ c.deref_mut-2.ensures.len) in
    let size = ap (λ (l : List Write). length l) (c.deref_mut-2.ensures.value ∙ none) in
    let left : c.exchange_all.new.writes ≡ [] = no_writes c.exchange_all.new.writes (omega (arith, c.exchange_all.ensures.as_many, size)) in
    let undo : c.append.new.self.items ≡ c.self.inside.undo.items =
    c.in-Ok.ensures.items ∙ (λ i. c.reserve.ensures.items i ++ writes i) ∙ ap (λ (l : List Write). c.self.inside.undo.items ++ l) left ∙ append-nil c.self.inside.undo.items in
    let same : slots new ≡ slots c.self.inside.pages.items =
    ap slots pages ∙ c.exchange_all.ensures.pages ∙ ap (λ (l : List Write). written l (slots c.deref_mut.result.now)) (c.deref_mut-2.ensures.value ∙ none) ∙ ap slots c.deref_mut.ensures.value ∙ c.make_room.ensures.same in
    seen-same c.self.inside.pages.items new c.self.inside.undo.items c.append.new.self.items c.args.self.now c.self.view_is same undo

pub invariant_of-self : goal.invariant_of-self
invariant_of-self c =
    IsMemory-grown c.self.inside.pages.items c.make_room.new.pages.items c.self.inside.undo.items c.self.inside.undo.items c.self.invariant c.make_room.ensures.same c.make_room.ensures.least c.make_room.ensures.most refl

pub invariant_of-self-in_err-reserve : goal.invariant_of-self-in_err-reserve
invariant_of-self-in_err-reserve c =
    IsMemory-grown c.self.inside.pages.items c.make_room.new.pages.items c.self.inside.undo.items c.reserve.new.self.items c.self.invariant c.make_room.ensures.same c.make_room.ensures.least c.make_room.ensures.most c.reserve.ensures.items

pub invariant_of-self-2 : goal.invariant_of-self-2
invariant_of-self-2 c =
    let grown = c.make_room.new.pages.items in
    let new = c.exchange_all.new.pages in
    let stays : length new ≡ length grown = c.exchange_all.ensures.len ∙ ap (λ (l : List Slot). length l) c.deref_mut.ensures.value in
    let pages : (with_items c.make_room.new.pages new).items ≡ new = with_items_is c.make_room.new.pages new (c.exchange_all.ensures.len ∙ c.deref_mut.ensures.len) in
    let writes : (with_items c.args.writes c.exchange_all.new.writes).items ≡ c.exchange_all.new.writes =
    with_items_is c.args.writes c.exchange_all.new.writes (c.exchange_all.ensures.as_many ∙ c.deref_mut-2.ensures.len) in
    let whole = c.exchange_all.ensures.whole
    (subst AreWhole (sym (ap slots c.deref_mut.ensures.value ∙ c.make_room.ensures.same)) c.self.invariant.now)
    (subst ArePagesTo (sym c.deref_mut-2.ensures.value) c.requires.whole) in
    subst (λ (l : List Slot). IsMemory l c.append.new.self.items) (sym pages)
    (IsMemory-written grown new c.self.inside.undo.items c.append.new.self.items c.exchange_all.new.writes
    (IsMemory-grown c.self.inside.pages.items grown c.self.inside.undo.items c.self.inside.undo.items c.self.invariant c.make_room.ensures.same c.make_room.ensures.least c.make_room.ensures.most refl)
    (omega (arith, stays)) (omega (arith, stays, c.make_room.ensures.most)) whole.0 whole.1
    (c.in-Ok.ensures.items ∙ (λ i. c.reserve.ensures.items i ++ writes i))
    c.exchange_all.ensures.among)
