-- What is printed of users who may be confined, and why they aren't.
use Rattle.std.specs.Prelude.{ℕ, Bool, false, not, ◌&&◌, if◌then◌else◌, List, [], ◌∷◌, ◌++◌, codes}
use Rattle.std.specs.Prelude.{Option, Some, None}
use Rattle.std.specs.List.{flat_map, list_any}
use Rattle.acl.specs.declared.act.Act.{Act}
use Rattle.acl.specs.declared.act.Act.TheVariants.{Known, Set}
use Rattle.acl.specs.declared.act.Object.TheVariants as object
use Rattle.acl.specs.declared.bits.Bit.{Bit}
use Rattle.acl.specs.declared.bits.Bit.TheVariants.{Read, Write, Execute}
use Rattle.acl.specs.declared.command_name.CommandName.{CommandName}
use Rattle.acl.specs.declared.command_name.CommandName.TheVariants as name
use Rattle.acl.specs.declared.leaders.Edition.{Edition}
use Rattle.acl.specs.declared.user_id.UserId.{UserId}
use Rattle.acl.specs.History.{History}
use Rattle.acl.specs.Names.{name_of}
use Rattle.acl.specs.Same.{same_user}
use Rattle.command_lang.specs.Names.{name_text}
use Rattle.session.specs.Texts.{letter}
use Rattle.trail_rights.specs.declared.decider.Decider.{Decider}
use Rattle.trail_rights.specs.declared.acts.Mark.{Mark}
use Rattle.trail_rights.specs.declared.settler.RightsSetting.{RightsSetting}
use Rattle.trail_rights.specs.declared.settler.RightsSetting.TheVariants as setting
use Rattle.trail_rights.specs.declared.settler.Settler.{Settler}
use Rattle.trail_rights.specs.declared.sight.Sight.{Sight}
use Rattle.trail_rights.specs.Deciding.{first_decider, found_in}
use Rattle.trail_rights.specs.Settling.{settler_in}
use Rattle.trail_confined.specs.declared.premises.Premise.{Premise}
use Rattle.trail_confined.specs.declared.premises.Premise.TheVariants as premise
use Rattle.trail_confined.specs.Confining.{circle, concerns}
use Rattle.trail_confined.specs.Reasons.{found_text, is_owner_text, yes_text}

-- ---- what is looked for: who may open windows, or change rights

abbrev pub power_decider : UserId → UserId → CommandName → Decider
power_decider owner user c = first_decider owner user Execute (object.Command c)

abbrev pub deciders_of_one : UserId → UserId → List Decider
deciders_of_one owner user =
    power_decider owner user name.Screen ∷ power_decider owner user name.Acladd
    ∷ power_decider owner user name.Aclchg ∷ power_decider owner user name.Acldel
    ∷ power_decider owner user name.Aclgrp ∷ power_decider owner user name.Aclumask ∷ []

-- ---- bits

-- `confined r yes`
abbrev pub bit_text : List Premise → Bit → List ℕ
bit_text failing bit =
    codes "confined " ++ (letter bit
    ++ (codes " " ++ (yes_text (not (list_any (concerns bit) failing)) ++ codes "\n")))

abbrev pub bits_text : List Premise → List ℕ
bits_text failing = bit_text failing Read ++ (bit_text failing Write ++ bit_text failing Execute)

-- ---- a premise that fails

abbrev pub letter_if : Premise → Bit → List ℕ
letter_if p bit = if concerns bit p then letter bit else []

-- `rwx`, or the bit of a mask
abbrev pub concerned_text : Premise → List ℕ
concerned_text p = letter_if p Read ++ (letter_if p Write ++ letter_if p Execute)

-- what is so in place of the premise
abbrev pub contrary_text : Premise → List ℕ
contrary_text (premise.NoPower user c) =
    name_of user ++ (codes " has x on " ++ (name_text c ++ codes "\n"))
contrary_text (premise.IsKnown user) = name_of user ++ codes " isn't known\n"
contrary_text (premise.OpensNone user) = name_of user ++ codes " may open windows\n"
contrary_text (premise.Masks opener user bit) =
    name_of opener ++ (codes " gives " ++ (letter bit ++ (codes " to " ++ (name_of user ++ codes "\n"))))

-- ---- the acts by which a user has x on a command: those that give it; if there are none, those that
-- made users known, who may get it by a preset

abbrev pub may_give : Act → Bool → Bool
may_give (Set user bit o value) by_preset = value && not by_preset
may_give (Known user) by_preset = by_preset
may_give a by_preset = false

abbrev pub gives : Option (Mark × Act) → Bool → Bool
gives None by_preset = false
gives (Some p) by_preset = may_give p.1 by_preset

abbrev pub found_of : List Decider → CommandName → UserId → Option (Mark × Act)
found_of deciders c user = found_in deciders user Execute (object.Command c)

abbrev pub act_giver_text : List Decider → CommandName → Bool → UserId → List ℕ
act_giver_text deciders c by_preset user =
    if gives (found_of deciders c user) by_preset
    then codes "  " ++ found_text user (found_of deciders c user)
    else []

abbrev pub any_gives : List Decider → CommandName → List UserId → Bool
any_gives deciders c users = list_any (λ user. gives (found_of deciders c user) false) users

abbrev pub givers_text : List Decider → CommandName → List UserId → List ℕ
givers_text deciders c users =
    flat_map (act_giver_text deciders c (not (any_gives deciders c users))) users

abbrev pub indented_owner_text : UserId → List ℕ
indented_owner_text owner = codes "  " ++ is_owner_text owner

abbrev pub power_text : Edition → UserId → History → List Decider → UserId → CommandName → List ℕ
power_text edition owner h deciders user c =
    if same_user user owner then indented_owner_text owner
    else givers_text deciders c (circle edition h user)

-- ---- the act that gave a setting its value

abbrev pub settled_by : Option Settler → Option (Mark × Act)
settled_by None = None
settled_by (Some s) = s.found

abbrev pub setting_text : List Settler → UserId → RightsSetting → List ℕ
setting_text settlers user s = codes "  " ++ found_text user (settled_by (settler_in settlers s))

-- ---- all of it, after the acts of a history that a sight has seen

abbrev pub causes_text : Edition → UserId → History → Sight → Premise → List ℕ
causes_text edition owner h s (premise.NoPower user c) =
    power_text edition owner h s.deciders.items user c
causes_text edition owner h s (premise.IsKnown user) =
    setting_text s.settlers.items user (setting.Listed user)
causes_text edition owner h s (premise.OpensNone user) =
    power_text edition owner h s.deciders.items user name.Screen
causes_text edition owner h s (premise.Masks opener user bit) =
    setting_text s.settlers.items user (setting.Mask opener user bit)

abbrev pub failing_text : Edition → UserId → History → Sight → Premise → List ℕ
failing_text edition owner h s p =
    codes "fails " ++ (concerned_text p ++ (codes " " ++ (contrary_text p
    ++ causes_text edition owner h s p)))

abbrev pub confinement_text : Edition → UserId → History → Sight → List Premise → List ℕ
confinement_text edition owner h s failing =
    bits_text failing ++ flat_map (failing_text edition owner h s) failing
