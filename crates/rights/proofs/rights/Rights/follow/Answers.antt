use Rattle.rights.proofs.Vocabulary.{sym, subst, Act, Redoes, Follows}
use Rattle.rights.proofs.rights.Rights.follow.Goals as goal

pub returns-in-Known : goal.returns-in-Known
returns-in-Known c = subst (λ (a : Act). Redoes c.args.self.now c.know.new.rights c.know.result a) (sym c.in-Known.is)
    c.know.ensures

pub returns-in-Gone : goal.returns-in-Gone
returns-in-Gone c = subst (λ (a : Act). Redoes c.args.self.now c.forget.new.rights c.forget.result a) (sym c.in-Gone.is)
    c.forget.ensures

pub returns-in-Set : goal.returns-in-Set
returns-in-Set c = subst (λ (a : Act). Redoes c.args.self.now c.set.new.rights c.set.result a) (sym c.in-Set.is)
    c.set.ensures

pub returns-in-Grouped : goal.returns-in-Grouped
returns-in-Grouped c = subst (λ (a : Act). Redoes c.args.self.now c.group.new.rights c.group.result a)
    (sym c.in-Grouped.is) c.group.ensures

pub returns-in-Masked : goal.returns-in-Masked
returns-in-Masked c = subst (λ (a : Act). Redoes c.args.self.now c.mask.new.rights c.mask.result a) (sym c.in-Masked.is)
    c.mask.ensures

pub returns-in-Preset : goal.returns-in-Preset
returns-in-Preset c = subst (λ (a : Act). Redoes c.args.self.now c.preset.new.rights c.preset.result a)
    (sym c.in-Preset.is) c.preset.ensures

pub returns-in-Opened : goal.returns-in-Opened
returns-in-Opened c = subst (λ (a : Act). Follows c.args.self.now c.«open».new.rights c.«open».result a)
    (sym c.in-Opened.is) c.«open».ensures

pub returns-in-Closed : goal.returns-in-Closed
returns-in-Closed c = subst (λ (a : Act). Follows c.args.self.now c.close.new.rights c.close.result a)
    (sym c.in-Closed.is) c.close.ensures

pub returns-in-Attached : goal.returns-in-Attached
returns-in-Attached c = subst (λ (a : Act). Redoes c.args.self.now c.attach.new.rights c.attach.result a)
    (sym c.in-Attached.is) c.attach.ensures

pub returns-in-Parted : goal.returns-in-Parted
returns-in-Parted c = subst (λ (a : Act). Follows c.args.self.now c.part.new.rights c.part.result a)
    (sym c.in-Parted.is) c.part.ensures

pub returns-in-Entered : goal.returns-in-Entered
returns-in-Entered c = subst (λ (a : Act). Follows c.args.self.now c.enter.new.rights c.enter.result a)
    (sym c.in-Entered.is) c.enter.ensures

pub returns-in-Left : goal.returns-in-Left
returns-in-Left c = subst (λ (a : Act). Follows c.args.self.now c.leave.new.rights c.leave.result a) (sym c.in-Left.is)
    c.leave.ensures

pub returns-in-Mode : goal.returns-in-Mode
returns-in-Mode c = subst (λ (a : Act). Follows c.args.self.now c.set_mode.new.rights c.set_mode.result a)
    (sym c.in-Mode.is) c.set_mode.ensures

pub returns-in-Default : goal.returns-in-Default
returns-in-Default c = subst (λ (a : Act). Follows c.args.self.now c.set_default.new.rights c.set_default.result a)
    (sym c.in-Default.is) c.set_default.ensures
