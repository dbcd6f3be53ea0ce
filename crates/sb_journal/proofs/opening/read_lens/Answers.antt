use Rattle.std.proofs.Common.{rules, ◌≡◌, ◌⊎◌, inl, inr, ⊎_elim, ◌+◌, ◌<◌, true, false, Option, length, ℕ, [], ◌∷◌, ◌++◌, refl, sym, ◌∙◌, ap, subst, arith}
use Rattle.std.specs.Prelude.{vec_capacity}
use Rattle.sb_disk.specs.Disk.{Story}
use Rattle.sb_journal.specs.Chunks.{bytes_of, places_from}
use Rattle.sb_journal.specs.Opening.{GateIs, LengthIs}
use Rattle.sb_journal.specs.View.{range_of}
use Rattle.sb_journal.proofs.ChunkLemmas.{bytes_of_more, places_from_more, length-places_from}
use Rattle.sb_journal.proofs.OpenLemmas.{all_read, one_read, no_field, no_room}
use Rattle.sb_journal.proofs.opening.read_lens.Goals as goal

length_is : (a b : Option Story) (at place n : ℕ) → a ≡ b → at ≡ place → LengthIs a at n → LengthIs b place n
length_is a b at place n same is spelled = subst (λ (s : Option Story). LengthIs s place n) same (subst (λ (k : ℕ). LengthIs a k n) is spelled)

pub returns-clause-ok : goal.returns-clause-ok
returns-clause-ok g c =
    let inv = c.loop-count.invariant in
    let found = c.in_ok-chunks.ensures.open in
    let inside = found.within in
    let last : (c.loop-count.count ≡ c.args.gates.len) ⊎ GateIs (g.D.Disk.told c.args.disk.now) (c.args.gates.start + c.loop-count.count) false = ⊎_elim
    (λ (all : c.args.gates.start + c.in_ok-chunks.chunks ≡ c.args.gates.start + c.args.gates.len). inl (omega arith))
    (λ (closed : GateIs (g.D.Disk.told c.args.disk.now) (c.args.gates.start + c.in_ok-chunks.chunks) false). inr (subst (λ (k : ℕ). GateIs (g.D.Disk.told c.args.disk.now) (c.args.gates.start + k) false) (omega arith) closed))
    found.last in
    record {
      read = all_read _ (g.D.Disk.len c.args.disk.now) (g.D.Disk.clock c.args.disk.now) (range_of c.args.gates) (range_of c.args.log) c.loop-count.lens.items c.loop-count.count
          (g.met.D.Disk.fits c.args.disk.now) c.requires.lies.log_fits (sym inv.count) inv.read last;
      count = omega (arith, inv.count);
      places = inv.places;
      used = inv.used;
      fits = inv.fits;
    }

pub returns-then-log-used-lt4-clause-refused : goal.returns-then-log-used-lt4-clause-refused
returns-then-log-used-lt4-clause-refused g c =
    let inv = c.loop-count.invariant in
    let inside = c.in_ok-chunks.ensures.open.within in
    let gate : GateIs (g.D.Disk.told c.args.disk.now) (c.args.gates.start + c.loop-count.count) true = c.in_ok-chunks.ensures.open.each (c.args.gates.start + c.loop-count.count) (omega arith) (omega arith) in
    (refl, omega arith, no_field _ (range_of c.args.gates) (range_of c.args.log) c.loop-count.lens.items c.loop-count.count inv.count (omega arith) inv.read gate (omega arith))

pub returns-then-log-used-clause-refused : goal.returns-then-log-used-clause-refused
returns-then-log-used-clause-refused g c =
    let inv = c.loop-count.invariant in
    let inside = c.in_ok-chunks.ensures.open.within in
    let gate : GateIs (g.D.Disk.told c.args.disk.now) (c.args.gates.start + c.loop-count.count) true = c.in_ok-chunks.ensures.open.each (c.args.gates.start + c.loop-count.count) (omega arith) (omega arith) in
    let spelled : LengthIs (g.D.Disk.told c.args.disk.now) (c.args.log.start + bytes_of c.loop-count.lens.items) c.in_ok-len.len = length_is _ _ _ _ c.in_ok-len.len inv.told (ap (λ (k : ℕ). c.args.log.start + k) inv.used) c.in_ok-len.ensures.length in
    (refl, omega arith, no_room _ (range_of c.args.gates) (range_of c.args.log) c.loop-count.lens.items c.loop-count.count c.in_ok-len.len inv.count (omega arith) (search rules) inv.read gate spelled (omega arith))

pub loop-count-preserved : goal.loop-count-preserved
loop-count-preserved g c =
    let inv = c.loop-count.invariant in
    let inside = c.in_ok-chunks.ensures.open.within in
    let gate : GateIs (g.D.Disk.told c.args.disk.now) (c.args.gates.start + c.loop-count.count) true = c.in_ok-chunks.ensures.open.each (c.args.gates.start + c.loop-count.count) (omega arith) (omega arith) in
    let spelled : LengthIs (g.D.Disk.told c.args.disk.now) (c.args.log.start + bytes_of c.loop-count.lens.items) c.in_ok-len.len = length_is _ _ _ _ c.in_ok-len.len inv.told (ap (λ (k : ℕ). c.args.log.start + k) inv.used) c.in_ok-len.ensures.length in
    let pushed : c.push.new.self.items ≡ c.loop-count.lens.items ++ c.in_ok-len.len ∷ [] = search rules in
    let more = bytes_of_more c.loop-count.lens.items c.in_ok-len.len in
    let sum = ap bytes_of pushed in
    let start : 0 + bytes_of c.loop-count.lens.items ≡ bytes_of c.loop-count.lens.items = omega arith in
    let place_items : c.push-in-loop-count.new.self.items ≡ c.loop-count.places.items ++ c.loop-count.used ∷ [] = search rules in
    record {
      count = search rules;
      read = one_read _ (range_of c.args.gates) (range_of c.args.log) c.loop-count.lens.items _ c.loop-count.count c.in_ok-len.len
          (sym inv.count) (omega arith) (omega arith) pushed gate spelled inv.read;
      used = omega arith;
      fits = omega arith;
      memory = search rules;
      places = place_items
          ∙ (λ i. inv.places i ++ inv.used i ∷ [])
          ∙ sym (ap (places_from 0) pushed
          ∙ places_from_more 0 c.in_ok-len.len c.loop-count.lens.items
          ∙ ap (λ (k : ℕ). places_from 0 c.loop-count.lens.items ++ k ∷ []) start);
      place_memory = search rules;
      told = search rules;
      len = search rules;
      faults = search rules;
    }

pub unwrap-requires-in-loop-count : goal.unwrap-requires-in-loop-count
unwrap-requires-in-loop-count g c =
    let inv = c.loop-count.invariant in
    let count : length c.loop-count.places.items ≡ c.loop-count.count = ap length inv.places ∙ length-places_from 0 c.loop-count.lens.items ∙ inv.count in
    let memory = inv.place_memory in
    let asked = c.requires.place_memory in
    let inside = c.in_ok-chunks.ensures.open.within in
    let free : length c.loop-count.places.items < vec_capacity c.loop-count.places = omega arith in
    search rules
