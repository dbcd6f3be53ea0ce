use Rattle.std.proofs.Common.{rules, ◌≡◌, ◌+◌, ◌^◌, ◌<◌, ℕ, length, ap, subst, arith}
use Rattle.sb_disk.specs.Disk.{Reads}
use Rattle.sb_journal.specs.State.{State}
use Rattle.sb_journal.proofs.InsideLemmas.{place_count, found_at, place_of, read_fits}
use Rattle.sb_journal.proofs.ReadLemmas.{Reads-ReadsChunk}
use Rattle.sb_journal.proofs.journal.Journal.read_chunk.Goals as goal

pub index-requires : goal.index-requires
index-requires g c = let count = place_count c.self.inside c.args.self.now c.args.i c.self.view_is c.self.invariant c.requires.chunk in search rules

pub overflow_add-self-inside : goal.overflow_add-self-inside
overflow_add-self-inside g c =
    let found = found_at c.self.inside.places.items c.args.i c.index.result.now (place_count c.self.inside c.args.self.now c.args.i c.self.view_is c.self.invariant c.requires.chunk) (search rules) in
    let fits = read_fits c.self.inside c.args.self.now c.args.i c.args.at (length c.args.buffer.now) c.index.result.now c.self.view_is c.self.invariant found c.requires.chunk c.requires.within in
    let log = c.self.invariant.log in
    let below : c.self.inside.log.start + c.index.result.now < 2 ^ 64 = omega arith in
    search rules

pub overflow_add-self-inside-2 : goal.overflow_add-self-inside-2
overflow_add-self-inside-2 g c =
    let found = found_at c.self.inside.places.items c.args.i c.index.result.now (place_count c.self.inside c.args.self.now c.args.i c.self.view_is c.self.invariant c.requires.chunk) (search rules) in
    let fits = read_fits c.self.inside c.args.self.now c.args.i c.args.at (length c.args.buffer.now) c.index.result.now c.self.view_is c.self.invariant found c.requires.chunk c.requires.within in
    let log = c.self.invariant.log in
    let below : c.self.inside.log.start + c.index.result.now + 4 < 2 ^ 64 = omega arith in
    search rules

pub overflow_add-self-inside-3 : goal.overflow_add-self-inside-3
overflow_add-self-inside-3 g c =
    let found = found_at c.self.inside.places.items c.args.i c.index.result.now (place_count c.self.inside c.args.self.now c.args.i c.self.view_is c.self.invariant c.requires.chunk) (search rules) in
    let fits = read_fits c.self.inside c.args.self.now c.args.i c.args.at (length c.args.buffer.now) c.index.result.now c.self.view_is c.self.invariant found c.requires.chunk c.requires.within in
    let log = c.self.invariant.log in
    let below : c.self.inside.log.start + c.index.result.now + 4 + c.args.at < 2 ^ 64 = omega arith in
    search rules

pub read_at-requires : goal.read_at-requires
read_at-requires g c =
    let is = c.self.view_is in
    let found = found_at c.self.inside.places.items c.args.i c.index.result.now (place_count c.self.inside c.args.self.now c.args.i c.self.view_is c.self.invariant c.requires.chunk) (search rules) in
    let fits = read_fits c.self.inside c.args.self.now c.args.i c.args.at (length c.args.buffer.now) c.index.result.now is c.self.invariant found c.requires.chunk c.requires.within in
    let lies = c.requires.lies.log_fits in
    let start : c.self.inside.log.start ≡ c.args.self.now.log.start = ap (λ (k : State). k.log.start) is in
    let size : c.self.inside.log.len ≡ c.args.self.now.log.len = ap (λ (k : State). k.log.len) is in
    omega arith

pub returns-in-Ok-clause-read : goal.returns-in-Ok-clause-read
returns-in-Ok-clause-read g c =
    let is = c.self.view_is in
    let found = found_at c.self.inside.places.items c.args.i c.index.result.now (place_count c.self.inside c.args.self.now c.args.i c.self.view_is c.self.invariant c.requires.chunk) (search rules) in
    let here = place_of c.self.inside c.args.self.now c.args.i c.index.result.now is c.self.invariant found in
    let size : length c.read_at.new.buffer ≡ length c.args.buffer.now = search rules in
    let within = c.requires.within in
    let start : c.self.inside.log.start ≡ c.args.self.now.log.start = ap (λ (k : State). k.log.start) is in
    Reads-ReadsChunk _ c.args.self.now c.args.i c.args.at c.index.result.now c.read_at.new.buffer here c.requires.chunk (omega arith)
    (subst (λ (k : ℕ). Reads (g.D.Disk.told c.args.disk.now) (k + c.index.result.now + 4 + c.args.at) c.read_at.new.buffer) start c.in-Ok.ensures.ok)
