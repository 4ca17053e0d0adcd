-- What this crate's proofs take from definitions and from other crates.
pub use Rattle.slab.specs.Slab.{Slab, entries, get}
pub use Rattle.std.proofs.Common.{Bool, Err, List, None, Ok, OnErr, Option, Result, Some, [], ap, arith, count_by}
pub use Rattle.std.proofs.Common.{false, inl, inr, length, refl, rules, subst, suc, sym, true, zero, ℕ, ◌+◌, ◌-◌, ◌/◌}
pub use Rattle.std.proofs.Common.{◌<◌, ◌∙◌, ◌≡◌, ◌≢◌, ◌≤◌}
pub use Rattle.std.proofs.lemmas.Bool.{cases_lt}
pub use Rattle.std.specs.Prelude.{IfSome, IsSomeAnd}
pub use Rattle.std.specs.declared.time.Duration.{Duration}
pub use Rattle.web_client.specs.declared.client.SharedClient.{SharedClient}
pub use Rattle.web_client.specs.declared.visitor.Visitor.{Visitor}
pub use Rattle.web_relay.specs.Halls.{AtBoth, Chooses, Closes, HallHears, HallTurns, IsHallToHear, Renews}
pub use Rattle.web_relay.specs.Places.{is_neighbour}
pub use Rattle.web_relay.specs.Relaying.{HearsOnce, IsConnected, IsToHear, IsToRead, LosesServer, ReadsOnce}
pub use Rattle.web_relay.specs.Seeing.{Watches}
pub use Rattle.web_relay.specs.Walking.{Repeats}
pub use Rattle.web_relay.specs.declared.hall.Hall.{Hall}
pub use Rattle.web_relay.specs.declared.halls.HallNumber.{HallNumber}
pub use Rattle.web_relay.specs.declared.halls.Halls.{Halls}
pub use Rattle.web_relay.specs.declared.relay.Relay.{Relay}
pub use Rattle.web_relay.specs.declared.relay.Upstream.TheVariants.{Connected}
