use Rattle.std.proofs.Common.{refl}
use Rattle.swf_scene.proofs.SettingLemmas.{setting_is}
use Rattle.swf_scene.proofs.setting.Setting.copy.Goals as goal

pub returns : goal.returns
returns c =
    let to = c.args.self.now in
    setting_is _ to c.in_ok-copy.ensures c.in_ok-copy-2.ensures refl c.in_ok-copy-3.ensures c.in_ok-copy-4.ensures c.in_ok-copy-5.ensures refl
