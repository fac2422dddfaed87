use Rattle.std.proofs.Common.{◌≡◌, ℕ, ◌∙◌, ap, sym, refl, arith, length}
use Rattle.std.specs.BTreeMap.{get}
use Rattle.std.specs.Ordering.{nat_cmp}
use Rattle.js_tree.specs.Rows.{entries_of}
use Rattle.js_tree.proofs.RowLemmas.{rows-appended, AreEntries-appended, Appended, kept-other, kept-same, length-rows}
use Rattle.js_tree.proofs.columns.Columns.append.Goals as goal

appended : (c : goal.After-put_all) → Appended (entries_of c.self.inside) (entries_of record { kinds = c.push_reserved.new.self; entries = c.push_reserved-2.new.self; slots = c.put_all.new.column; names = c.keep_name.new.names }) c.args.kind c.args.span c.args.op c.args.flags c.args.name c.args.children.now
appended c =
    let number : c.len-2.result ≡ length c.self.inside.kinds.items = omega (arith, c.len-2.ensures, c.self.inside.kinds.ok.0) in
    let start : c.in_ok-start.start ≡ length c.self.inside.slots.items = omega (arith, c.in_ok-start.ensures, c.len.ensures, c.self.inside.slots.ok.0) in
    record {
      bits = c.bits_of.result;
      kinds = rw (c.push_reserved.ensures.items, c.in_ok-make_room.ensures.kinds.entries) refl;
      entries = rw (c.push_reserved-2.ensures.items, c.in_ok-make_room.ensures.entries.entries, start, c.in_ok-count.ensures) refl;
      slots = rw (c.put_all.ensures, c.in_ok-make_room.ensures.slots.entries) refl;
      bits_are = c.bits_of.ensures.flags;
      names = λ i ne. c.in_ok-keep_name.ensures.ok i ∙ kept-other c.self.inside.names c.len-2.result c.args.name i (λ e. ne (e ∙ number));
      name_is = ap (λ (n : ℕ). get nat_cmp c.keep_name.new.names n) (sym number) ∙ c.in_ok-keep_name.ensures.ok c.len-2.result ∙ kept-same c.self.inside.names c.len-2.result c.args.name (c.self.invariant.names c.len-2.result (omega arith));
    }

pub returns : goal.returns
returns c = record { number = (let e = length-rows (entries_of c.self.inside) in let v = ap length c.self.view_is in omega (arith, c.len-2.ensures, c.self.inside.kinds.ok.0)); nodes = rw (← c.self.view_is) (rows-appended (entries_of c.self.inside) _ c.self.invariant (appended c)) }

pub invariant_of-self-2 : goal.invariant_of-self-2
invariant_of-self-2 c = AreEntries-appended (entries_of c.self.inside) _ c.self.invariant (appended c)

pub invariant_of-self : goal.invariant_of-self
invariant_of-self c = rw (c.make_room.ensures.kinds.entries, c.make_room.ensures.entries.entries, c.make_room.ensures.slots.entries) c.self.invariant
