use Rattle.smpe_lint.proofs.Released.{release_keeps}
use Rattle.smpe_lint.proofs.receiving.take_hold.Goals as goal

pub returns-in-Release : goal.returns-in-Release
returns-in-Release c =
    let release = c.release.inside in
    release_keeps c.release-in-Release.result c.args.global.now c.release-in-Release.new.self release.id release.kind
    release.reason c.release-in-Release.ensures.ok c.release-in-Release.ensures.err
