use Rattle.std.proofs.Common.{List, Option, subst}
use Rattle.std.specs.String.{string_bytes}
use Rattle.sqlite_disk.specs.contracts.memory.MemoryDisk.TheImpl.{ghosts as memory_disk}
use Rattle.terms.specs.Types.{Text}
use Rattle.smpe_command.specs.Shop.{ServesShop}
use Rattle.smpe_command.proofs.FileNames.{each_named}
use Rattle.smpe_command.proofs.checks.serve_files.Goals as goal

pub returns-in-Some : goal.returns-in-Some
returns-in-Some g c =
    let served = subst (λ (names : List (Option Text)). ServesShop g.H.Host memory_disk g.O.Sink c.args.host.now
    c.args.out.now c.args.check.now.system.now c.args.commands.now names c.serve_shop.result c.serve_shop.new.host
    c.serve_shop.new.out) (each_named string_bytes c.args.check.now.names.now) c.serve_shop.ensures in
    rw c.in-Some.is (rw c.in-Some.is at served)

pub returns-in-None : goal.returns-in-None
returns-in-None g c = rw c.in-None.is c.serve_package.ensures
