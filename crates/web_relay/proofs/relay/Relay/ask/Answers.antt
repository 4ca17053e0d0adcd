use Rattle.std.proofs.Common.{◌≡◌, ◌∙◌, ◌||◌, Bool, true, false, Result, Ok, Err, OnOk, ap, refl, sym}
use Rattle.std.specs.Result.{is_err}
use Rattle.web_client.specs.declared.visitor.Visitor.{Visitor}
use Rattle.web_relay.proofs.relay.Relay.ask.Goals as goal

was_ok : {A E P : Type 0} (r : Result A E) → OnOk r P → is_err r ≡ false → P
was_ok (Ok x) h e = h
was_ok (Err x) h e = absurd (let wrong : true ≡ false = e in cc)

second : (a b : Bool) → (a || b) ≡ false → b ≡ false
second true b e = absurd (let wrong : true ≡ false = e in cc)
second false b e = e

first : (a b : Bool) → a ≡ true → (a || b) ≡ true
first true b e = refl
first false b e = absurd (let wrong : false ≡ true = e in cc)

pub returns : goal.returns
returns g c =
    let old = c.args.self.now in
    let over = old.is_over || c.is_err.result in (
      record old { asked = c.args.now; visitor = c.ping.new.self; is_over = over },
      record {
        told = λ is_open on. was_ok c.ping.result (c.ping.ensures.asks is_open)
            (sym c.is_err.ensures.value ∙ second old.is_over c.is_err.result on);
        other = λ closed. c.ping.ensures.closed closed;
        over = λ e. first old.is_over c.is_err.result e;
        rest = ap (λ (v : Visitor). record old { asked = c.args.now; visitor = v; is_over = over }) c.ping.ensures.same;
      },
      c.write_all.ensures,
    )
