-- What the rules of a task go by.
use Rattle.swf_meaning.specs.Line.{Line, Site}
use Rattle.swf_rule.specs.declared.rule.Rule.{Rule}
use Rattle.swf_scene.specs.Setting.{line_of, site_of}

abbrev pub line_in : Rule → Line
line_in r = line_of r.scene.now

abbrev pub site_in : Rule → Site
site_in r = site_of r.scene.now
