use Rattle.std.proofs.Common.{rules, refl, inl, inr}
use Rattle.server_client.proofs.Places.{in_front, in_none, in_root, none_of}
use Rattle.server_client.proofs.waiting.has_place.Goals as goal

pub returns-in-Some : goal.returns-in-Some
returns-in-Some g c = record {
  is = inl (
    c.in-Some.folder.now,
    in_front c.args.arguments.now.socket.now c.in-Some.folder.now c.in-Some.field-0-1.now c.in-Some.ensures.cases,
    search rules,
    c.is_there.ensures,
  );
}

pub returns-in_default : goal.returns-in_default
returns-in_default g c = record {
  is = inr (
    λ folder.
        in_root c.args.arguments.now.socket.now c.in-Some.folder.now folder
        (in_front c.args.arguments.now.socket.now c.in-Some.folder.now c.in-Some.field-0-1.now c.in-Some.ensures.cases)
        (search rules),
    refl,
  );
}

pub returns-in_default-2 : goal.returns-in_default-2
returns-in_default-2 g c = record {
  is = inr (
    in_none c.args.arguments.now.socket.now
        (none_of c.rsplit_once.result _ _ c.in_default.is c.rsplit_once.ensures.cases),
    refl,
  );
}
